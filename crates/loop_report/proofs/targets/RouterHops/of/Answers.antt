use Rattle.std.proofs.lemmas.List.Elements.{All-nil, All-push, All-same}
use Rattle.loop_report.specs.steps.Targets.{AreTargets}
use Rattle.loop_report.proofs.targets.RouterHops.of.Goals as goal

pub loop-hop-preserved : goal.loop-hop-preserved
loop-hop-preserved g c = λ db are.
    let P = AreTargets db c.router-router.result in
    All-same P _ _ c.in_ok-push.ensures.items (All-push P _ _ (c.loop-hop.invariant db are) (c.in_ok-routers.ensures db are))

pub loop-hop-init : goal.loop-hop-init
loop-hop-init g c = λ db are.
    let P = AreTargets db c.router-router.result in
    All-same P _ _ c.new-hops.ensures.items (All-nil P)
