use Rattle.std.proofs.Common.{◌≡◌, ◌∙◌, List, ◌++◌, get_or, ap}
use Rattle.std.specs.List.{flat_map}
use Rattle.std.proofs.lemmas.List.{take_all}
use Rattle.std.proofs.lemmas.Result.{IfOk-weaker}
use Rattle.lsa_codec.specs.Order.{router_cmp}
use Rattle.lsa_codec.specs.declared.address.RouterId.{RouterId}
use Rattle.area_graph.specs.Rising.{rising}
use Rattle.area_routes.proofs.AddsLemmas.{adds_at, flat_map_adds}
use Rattle.forwarding.specs.steps.Levels.{unseen_from}
use Rattle.forwarding.proofs.graph.ForwardingGraph.next_level.Goals as goal

abbrev no_router : RouterId
no_router = record { 0 = 0 }

pub loop-router-preserved : goal.loop-router-preserved
loop-router-preserved g c =
    let level = c.args.level.now in
    let i = c.loop-router.router-index in
    let from = unseen_from c.args.self.now c.args.seen.now.keys in
    adds_at (flat_map_adds from) (λ cs. c.loop-router.routers.items ≡ cs) (λ cs. c.push_unseen_from.new.routers.items ≡ cs)
    level i no_router c.loop-router-test.true c.loop-router.invariant (λ cs was.
    c.in_ok-push_unseen_from.ensures ∙ ap (λ (l : List RouterId). l ++ from (get_or level i no_router)) was)

pub returns : goal.returns
returns g c =
    IfOk-weaker c.in_order.result _ _ (λ v h.
    h ∙ ap (rising router_cmp) c.deref.ensures.value ∙ ap (rising router_cmp) c.loop-router.invariant
    ∙ ap (λ (rs : List RouterId). rising router_cmp (flat_map (unseen_from c.args.self.now c.args.seen.now.keys) rs))
    (take_all c.loop-router.router-index c.args.level.now c.loop-router-test.false))
    c.in_order.ensures
