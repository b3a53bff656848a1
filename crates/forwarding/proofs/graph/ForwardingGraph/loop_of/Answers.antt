use Rattle.std.proofs.Common.{◌∙◌, List, sym, ap, subst}
use Rattle.std.specs.List.{list_any}
use Rattle.std.proofs.lemmas.Bool.{false≢true}
use Rattle.lsa_codec.specs.Order.{router_cmp}
use Rattle.lsa_codec.specs.declared.address.RouterId.{RouterId}
use Rattle.area_graph.specs.Rising.{rising}
use Rattle.forwarding.specs.steps.Looping.{AreBack, sends_to}
use Rattle.forwarding.proofs.WaysBack.{cycle_found, cycle_sent, loop_is}
use Rattle.forwarding.proofs.graph.ForwardingGraph.loop_of.Goals as goal

pub returns-then-not-any_sends_to : goal.returns-then-not-any_sends_to
returns-then-not-any_sends_to g c = λ cycle.
    let sends = sends_to c.args.self.now c.args.router in
    false≢true (sym c.if-not-any_sends_to.true ∙ c.any_sends_to.ensures
    ∙ ap (λ (rs : List RouterId). list_any sends rs) c.deref.ensures.value
    ∙ cycle_sent c.args.self.now c.args.router c.in_ok-reached.reached.items c.in_ok-reached.ensures cycle)

pub returns : goal.returns
returns g c =
    let graph = c.args.self.now in
    let router = c.args.router in
    let sends = sends_to graph router in
    let reached = c.in_ok-reached.reached.items in
    let back = c.in_ok-back.back.items in
    loop_is graph router reached c.in_ok-reached.ensures
    (cycle_found graph router reached c.in_ok-reached.ensures
    (sym (c.any_sends_to.ensures ∙ ap (λ (rs : List RouterId). list_any sends rs) c.deref.ensures.value) ∙ c.if-not-any_sends_to.false))
    back c.in_ok-routers.routers.items
    (subst (λ (rs : List RouterId). AreBack graph router rs back) c.deref-2.ensures.value c.in_ok-back.ensures)
    (c.in_ok-routers.ensures ∙ ap (rising router_cmp) c.deref-3.ensures.value)
