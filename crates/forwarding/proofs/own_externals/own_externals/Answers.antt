use Rattle.std.proofs.Common.{◌∙◌, [], ◌∷◌, List, ℕ, Bor, map, sym, ap}
use Rattle.std.specs.List.{filter_map}
use Rattle.std.proofs.lemmas.Iterator.Consumers.{YieldsList-end, YieldsList-from_first}
use Rattle.std.proofs.lemmas.List.{map-append}
use Rattle.lsa_codec.specs.Order.{prefix_cmp}
use Rattle.lsa_codec.specs.Prefix.{Net}
use Rattle.area_graph.specs.Rising.{rising}
use Rattle.area_routes.proofs.AddsLemmas.{filter_map_adds}
use Rattle.forwarding.specs.OwnExternals.{announced}
use Rattle.forwarding.proofs.own_externals.own_externals.Goals as goal

pub loop-lsa-preserved : goal.loop-lsa-preserved
loop-lsa-preserved g c =
    let now = λ (lsa : Bor (List ℕ)). lsa.now in
    let so_far = map now c.loop-lsa.yielded in
    let nets : List Net = filter_map (announced c.args.router) so_far in
    c.in_ok-add_announced.ensures nets c.loop-lsa.invariant
    ∙ ap (rising prefix_cmp)
    (sym (ap (filter_map (announced c.args.router)) (map-append now c.loop-lsa.yielded (c.in-Some.lsa ∷ []))
    ∙ (filter_map_adds (announced c.args.router)).push so_far c.in-Some.lsa.now))

pub returns : goal.returns
returns g c =
    let seen = YieldsList-end (YieldsList-from_first (λ (lsa : Bor (List ℕ)). lsa.now) (λ lsas. lsas) c.lsas-lsa-items.result c.into_iter-lsa-iterator.ensures.into_iter_gives)
    c.loop-lsa.yielded _ c.loop-lsa.yielded_by _ _ c.in-None.is c.next.ensures.steps in
    c.loop-lsa.invariant ∙ ap (λ (lsas : List (List ℕ)). rising prefix_cmp (filter_map (announced c.args.router) lsas)) seen.0
    ∙ ap (λ (lsas : List (List ℕ)). rising prefix_cmp (filter_map (announced c.args.router) lsas)) c.lsas-lsa-items.ensures.lsas
