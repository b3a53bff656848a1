use Rattle.std.proofs.Common.{ℕ, List, ap, arith, ◌∙◌}
use Rattle.std.specs.List.{filter_map, flat_map}
use Rattle.std.proofs.lemmas.List.{take_all}
use Rattle.lsa_codec.specs.declared.address.AreaId.{AreaId}
use Rattle.lsdb.specs.Lists.{AreaHead, areas_of, lsas_of}
use Rattle.lsdb.specs.Slots.{lists_of}
use Rattle.lsdb.specs.declared.section.Section.TheVariants.{Area}
use Rattle.capture_report.specs.Naming.{router_described}
use Rattle.capture_report.proofs.Parts.{flat_map-map}
use Rattle.capture_report.proofs.database.routers_anywhere.Goals as goal

pub returns : goal.returns
returns g c =
    let db = lists_of c.args.database.now in
    let given : AreaId → List ℕ = λ area. filter_map router_described (lsas_of (Area area) db) in
    c.loop-area.invariant
    ∙ ap (flat_map given)
    (take_all c.loop-area.area-index c.deref-area-items.result.now (omega arith) ∙ c.deref-area-items.ensures.value ∙ c.in_ok-areas.ensures)
    ∙ flat_map-map given (λ (area : AreaHead). record { 0 = area.id }) (areas_of db)
