use Rattle.std.proofs.Common.{◌≡◌, ◌++◌, ◌^◌, None, Some, sym, ap, subst, ◌∙◌}
use Rattle.std.specs.Option.{option_copied}
use Rattle.lsa_codec.specs.declared.address.AreaId.{AreaId}
use Rattle.lsdb.specs.declared.section.Section.TheVariants.{Area}
use Rattle.lsdb.specs.Lists.{lsas_of}
use Rattle.lsdb.specs.Slots.{lists_of}
use Rattle.area_routes.specs.Inter.{entries_of_all, examined, inter_entries, inter_routes}
use Rattle.area_routes.specs.Values.{AreaResultValue, EntriesBelow}
use Rattle.area_routes.proofs.Gathered.{inter_none, inter_some, joined_below, wider}
use Rattle.area_routes.proofs.inter_area.inter.Goals as goal

pub from_vec-requires : goal.from_vec-requires
from_vec-requires g c = wider c.in_ok-routers.routers.items c.in_ok-routers.ensures.small

pub returns-in_default : goal.returns-in_default
returns-in_default g c =
    let none : None ≡ examined c.args.results.now = ap option_copied (sym c.in_default.is) ∙ c.examined.ensures in
    inter_none (lists_of c.args.database.now) c.args.router c.args.results.now c.args.intra.now c.new.result c.from_vec.result none
    c.new.ensures (c.from_vec.ensures ∙ c.in_ok-routers.ensures.entries)

pub from_vec-requires-2 : goal.from_vec-requires-2
from_vec-requires-2 g c =
    subst (EntriesBelow (2 ^ 34)) (sym c.in_ok-append.ensures.items)
    (joined_below c.in_ok-routers.routers.items c.in_ok-entries.entries.items c.in_ok-routers.ensures.small c.in_ok-entries.ensures.small)

pub returns : goal.returns
returns g c =
    let found : Some c.in-Some.area.now ≡ examined c.args.results.now = ap option_copied (sym c.in-Some.is) ∙ c.examined.ensures in
    let lists = lists_of c.args.database.now in
    let area : AreaResultValue = c.in-Some.area.now in
    let section : (a : AreaId) → a ≡ area.area → lsas_of (Area a) lists ≡ lsas_of (Area area.area) lists =
    λ a e. ap (λ (x : AreaId). lsas_of (Area x) lists) e in
    let routes =
    c.in_ok-routes.ensures
    ∙ ap (inter_routes c.args.router c.in_ok-area.area c.args.intra.now) (c.lsas.ensures.lsas ∙ section c.area.result c.area.ensures)
    ∙ ap (λ (a : AreaResultValue). inter_routes c.args.router a c.args.intra.now (lsas_of (Area area.area) lists)) c.in_ok-area.ensures.value in
    let entries =
    c.in_ok-entries.ensures.entries
    ∙ ap (inter_entries c.args.router c.in_ok-area.area) (c.lsas-2.ensures.lsas ∙ section c.area.result c.area.ensures)
    ∙ ap (λ (a : AreaResultValue). inter_entries c.args.router a (lsas_of (Area area.area) lists)) c.in_ok-area.ensures.value in
    let routers =
    c.from_vec-2.ensures ∙ c.in_ok-append.ensures.items
    ∙ ap (λ l. l ++ c.in_ok-entries.entries.items) c.in_ok-routers.ensures.entries
    ∙ ap (λ l. entries_of_all c.args.results.now ++ l) entries in
    inter_some lists c.args.router c.args.results.now c.args.intra.now c.in_ok-routes.routes c.from_vec-2.result area found routes routers
