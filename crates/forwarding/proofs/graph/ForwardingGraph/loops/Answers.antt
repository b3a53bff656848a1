use Rattle.std.proofs.Common.{◌≡◌, ◌∙◌, [], ◌∷◌, ◌++◌, List, take, get_or, sym, subst}
use Rattle.std.proofs.lemmas.List.{take_all, take_more}
use Rattle.lsa_codec.specs.Order.{router_cmp}
use Rattle.lsa_codec.specs.declared.address.RouterId.{RouterId}
use Rattle.area_graph.specs.Rising.{rising}
use Rattle.forwarding.proofs.LoopLists.{AreFrom, below_at, from_more, loops_all}
use Rattle.forwarding.proofs.graph.ForwardingGraph.loops.Goals as goal

abbrev no_router : RouterId
no_router = record { 0 = 0 }

pub loop-router-preserved : goal.loop-router-preserved
loop-router-preserved g c =
    let graph = c.args.self.now in
    let items = c.deref-router-items.result.now in
    let i = c.loop-router.router-index in
    let router = get_or items i no_router in
    let lt = c.loop-router-test.true in
    let is : items ≡ rising router_cmp c.args.routers.now = c.deref-router-items.ensures.value ∙ c.in_ok-sorted.ensures in
    subst (λ (xs : List RouterId). AreFrom graph xs c.push_some.new.list.items) (sym (take_more items i no_router lt))
    (subst (λ (ls : List (List RouterId)). AreFrom graph (take i items ++ router ∷ []) ls) (sym c.in_ok-push_some.ensures)
    (from_more graph (take i items) c.loop-router.loops.items c.loop-router.invariant router
    (below_at graph c.args.routers.now items is i no_router lt) c.in_ok-loop_unless_free.field-0 c.in_ok-loop_unless_free.ensures))

pub returns : goal.returns
returns g c =
    let items = c.deref-router-items.result.now in
    loops_all c.args.self.now c.args.routers.now items c.loop-router.loops.items (c.deref-router-items.ensures.value ∙ c.in_ok-sorted.ensures)
    (subst (λ (xs : List RouterId). AreFrom c.args.self.now xs c.loop-router.loops.items)
    (take_all c.loop-router.router-index items c.loop-router-test.false) c.loop-router.invariant)
