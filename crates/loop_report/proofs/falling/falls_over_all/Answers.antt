use Rattle.std.proofs.Common.{List, subst}
use Rattle.std.specs.Prelude.{All}
use Rattle.std.proofs.lemmas.Bool.{OnTrue_at}
use Rattle.std.proofs.lemmas.List.{take_all}
use Rattle.std.proofs.lemmas.List.Elements.{All-more}
use Rattle.next_hops.specs.declared.hop.Hop.{Hop}
use Rattle.loop_report.specs.steps.Falling.{FallsOver}
use Rattle.loop_report.proofs.falling.falls_over_all.Goals as goal

pub loop-hop-preserved : goal.loop-hop-preserved
loop-hop-preserved g c = λ db are.
    All-more (FallsOver c.args.forwarding.now.routers c.args.address db c.args.known.now.router c.args.cost) c.args.hops.now c.loop-hop.hop-index _
    c.loop-hop-test.true (c.loop-hop.invariant db are) (OnTrue_at c.if-not-falls_over.false c.falls_over.ensures db are)

pub returns : goal.returns
returns g c = λ db are.
    subst (λ (hops : List Hop). All (FallsOver c.args.forwarding.now.routers c.args.address db c.args.known.now.router c.args.cost) hops)
    (take_all c.loop-hop.hop-index c.args.hops.now c.loop-hop-test.false) (c.loop-hop.invariant db are)
