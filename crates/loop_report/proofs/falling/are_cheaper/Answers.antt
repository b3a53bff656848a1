use Rattle.std.proofs.Common.{◌<◌, List, subst}
use Rattle.std.proofs.lemmas.Bool.{OnTrue_at}
use Rattle.std.proofs.lemmas.List.{take_all}
use Rattle.std.proofs.lemmas.List.Elements.{All-more}
use Rattle.lsa_codec.specs.declared.address.RouterId.{RouterId}
use Rattle.loop_report.specs.steps.Falling.{AreCheaper, cost_at}
use Rattle.loop_report.proofs.falling.are_cheaper.Goals as goal

pub loop-router-preserved : goal.loop-router-preserved
loop-router-preserved g c =
    All-more (λ router. cost_at c.args.forwarding.now.routers c.args.address router < c.args.cost) c.args.routers.now c.loop-router.router-index _
    c.loop-router-test.true c.loop-router.invariant (OnTrue_at c.if-not-is_cheaper.false c.is_cheaper.ensures)

pub returns : goal.returns
returns g c =
    subst (λ (routers : List RouterId). AreCheaper c.args.forwarding.now.routers c.args.address c.args.cost routers)
    (take_all c.loop-router.router-index c.args.routers.now c.loop-router-test.false) c.loop-router.invariant
