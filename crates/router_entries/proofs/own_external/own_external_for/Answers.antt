use Rattle.std.proofs.Common.{◌∙◌, [], ◌∷◌, List, ℕ, Bor, Option, map, sym, ap}
use Rattle.std.specs.List.{filter_map}
use Rattle.std.proofs.lemmas.Iterator.Consumers.{YieldsList-end, YieldsList-from_first}
use Rattle.std.proofs.lemmas.List.{map-append}
use Rattle.area_graph.specs.Least.{least}
use Rattle.router_entries.specs.declared.own_external.OwnExternal.{OwnExternal}
use Rattle.router_entries.specs.OwnExternals.{own_by, own_cmp}
use Rattle.router_entries.specs.steps.First.{first_with}
use Rattle.router_entries.proofs.Own.{first_push}
use Rattle.router_entries.proofs.own_external.own_external_for.Goals as goal

pub loop-lsa-preserved : goal.loop-lsa-preserved
loop-lsa-preserved g c =
    let now = λ (lsa : Bor (List ℕ)). lsa.now in
    let of = own_by c.args.router c.args.net in
    let so_far = map now c.loop-lsa.yielded in
    c.first_with-found.ensures ∙ ap (λ (o : Option OwnExternal). first_with o c.own_by.result) c.loop-lsa.invariant
    ∙ ap (first_with (least own_cmp (filter_map of so_far))) c.own_by.ensures
    ∙ sym (ap (λ (lsas : List (List ℕ)). least own_cmp (filter_map of lsas)) (map-append now c.loop-lsa.yielded (c.in-Some.lsa ∷ []))
    ∙ first_push of so_far c.in-Some.lsa.now)

pub returns : goal.returns
returns g c =
    let of = own_by c.args.router c.args.net in
    let seen = YieldsList-end (YieldsList-from_first (λ (lsa : Bor (List ℕ)). lsa.now) (λ lsas. lsas) c.lsas-lsa-items.result c.into_iter-lsa-iterator.ensures.into_iter_gives)
    c.loop-lsa.yielded _ c.loop-lsa.yielded_by _ _ c.in-None.is c.next.ensures.steps in
    c.loop-lsa.invariant ∙ ap (λ (lsas : List (List ℕ)). least own_cmp (filter_map of lsas)) seen.0
    ∙ ap (λ (lsas : List (List ℕ)). least own_cmp (filter_map of lsas)) c.lsas-lsa-items.ensures.lsas
