use Rattle.std.proofs.Common.{◌∙◌, ◌<◌, ℕ, All, subst, ap}
use Rattle.std.specs.List.{filter_map}
use Rattle.std.proofs.lemmas.Result.{IfOk-weaker}
use Rattle.lsa_codec.specs.Order.{router_cmp}
use Rattle.area_graph.specs.Rising.{rising}
use Rattle.audit_topology.specs.steps.Numbers.{router_at}
use Rattle.audit_topology.proofs.Parted.{reached_routers}
use Rattle.audit_topology.proofs.part.reached_routers.Goals as goal

pub routers_at-requires : goal.routers_at-requires
routers_at-requires g c =
    subst (λ (n : ℕ). All (λ i. i < n) c.order.result.now) c.in_ok-tree.ensures.tree.sized c.order.ensures.within

pub returns : goal.returns
returns g c =
    let numbers = router_at c.args.graph.now in
    IfOk-weaker c.rising.result _ _
    (λ found is. λ lsas graph. is
    ∙ ap (rising router_cmp) (c.deref.ensures.value ∙ c.in_ok-routers.ensures ∙ ap (filter_map numbers) c.order.ensures.order)
    ∙ reached_routers lsas c.args.graph.now c.args.root c.in_ok-tree.tree graph c.in_ok-tree.ensures.tree c.in_ok-tree.ensures.whole)
    c.rising.ensures
