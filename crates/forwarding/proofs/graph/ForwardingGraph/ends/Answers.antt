use Rattle.std.proofs.Common.{◌∙◌, List, take, get_or, sym, ap, subst}
use Rattle.std.proofs.lemmas.List.{take_all, take_more}
use Rattle.lsa_codec.specs.declared.address.RouterId.{RouterId}
use Rattle.forwarding.specs.steps.Ending.{HaveEnds, either, ends_at}
use Rattle.forwarding.proofs.EndsMet.{ends_all, ends_more, ends_none}
use Rattle.forwarding.proofs.graph.ForwardingGraph.ends.Goals as goal

abbrev no_router : RouterId
no_router = record { 0 = 0 }

pub loop-router-init : goal.loop-router-init
loop-router-init g c = ends_none c.args.self.now c.none-ends.result c.none-ends.ensures

pub loop-router-preserved : goal.loop-router-preserved
loop-router-preserved g c =
    let routers = c.args.reached.now in
    let i = c.loop-router.router-index in
    let router = get_or routers i no_router in
    subst (λ (rs : List RouterId). HaveEnds c.args.self.now rs c.either-ends.result) (sym (take_more routers i no_router c.loop-router-test.true))
    (ends_more c.args.self.now (take i routers) router c.loop-router.ends c.either-ends.result c.loop-router.invariant
    (c.either-ends.ensures ∙ ap (either c.loop-router.ends) (c.ends_at.ensures ∙ ap ends_at c.step.ensures)))

pub returns : goal.returns
returns g c = λ start are.
    let routers = c.args.reached.now in
    ends_all c.args.self.now start routers c.loop-router.ends are
    (subst (λ (rs : List RouterId). HaveEnds c.args.self.now rs c.loop-router.ends) (take_all c.loop-router.router-index routers c.loop-router-test.false)
    c.loop-router.invariant)
