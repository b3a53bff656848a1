use Rattle.std.proofs.Common.{◌∙◌, [], ◌∷◌, ◌++◌, List, ℕ, append_assoc, map, sym, ap}
use Rattle.std.specs.List.{cons_option, filter_map}
use Rattle.std.proofs.lemmas.Iterator.Consumers.{YieldsList-end, YieldsList-from_first}
use Rattle.std.proofs.lemmas.List.{map-append}
use Rattle.lsa_codec.specs.declared.address.RouterId.{RouterId}
use Rattle.area_graph.specs.Rising.{rising}
use Rattle.lsa_codec.specs.Order.{router_cmp}
use Rattle.area_routes.proofs.AddsLemmas.{filter_map_adds}
use Rattle.routing_table.specs.Routers.{live_router}
use Rattle.routing_table.proofs.attached.add_routers.Goals as goal

pub loop-lsa-preserved : goal.loop-lsa-preserved
loop-lsa-preserved g c = λ before from.
    let so_far = map (λ lsa. lsa.now) c.loop-lsa.yielded in
    let routers : List RouterId = filter_map live_router so_far in
    c.in_ok-add_router.ensures (before ++ routers) (c.loop-lsa.invariant before from)
    ∙ ap (rising router_cmp) (append_assoc before routers (cons_option (live_router c.in-Some.lsa.now) []))
    ∙ ap (λ (l : List RouterId). rising router_cmp (before ++ l))
    (sym (ap (filter_map live_router) (map-append (λ lsa. lsa.now) c.loop-lsa.yielded (c.in-Some.lsa ∷ []))
    ∙ (filter_map_adds live_router).push so_far c.in-Some.lsa.now))

pub returns : goal.returns
returns g c = λ before from.
    let seen = YieldsList-end (YieldsList-from_first (λ lsa. lsa.now) (λ lsas. lsas) c.args.lsas c.into_iter-lsa-iterator.ensures.into_iter_gives)
    c.loop-lsa.yielded _ c.loop-lsa.yielded_by _ _ c.in-None.is c.next.ensures.steps in
    c.loop-lsa.invariant before from ∙ ap (λ (lsas : List (List ℕ)). rising router_cmp (before ++ filter_map live_router lsas)) seen.0
