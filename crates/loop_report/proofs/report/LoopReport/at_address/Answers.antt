use Rattle.std.proofs.Common.{List, ap, subst, ◌∙◌}
use Rattle.std.proofs.lemmas.Bool.{OnTrue_at}
use Rattle.lsdb.specs.Lists.{Lists}
use Rattle.forwarding.specs.Graphs.{StepValue, graph_of}
use Rattle.loop_report.specs.Blackholes.{new_blackholes}
use Rattle.loop_report.specs.Loops.{AreLoopsOf}
use Rattle.loop_report.proofs.NoLoops.{no_blackholes_at, no_loops_at}
use Rattle.loop_report.proofs.report.LoopReport.at_address.Goals as goal

pub returns-then-costs_fall-clause-loops : goal.returns-then-costs_fall-clause-loops
returns-then-costs_fall-clause-loops g c = λ was is of.
    no_loops_at was is c.args.compared.now of c.args.address c.args.net c.deref.result.now c.deref.ensures.value
    (OnTrue_at c.if-costs_fall.true c.costs_fall.ensures) c.empty.result.loops c.empty.ensures.loops

pub returns-then-costs_fall-clause-blackholes : goal.returns-then-costs_fall-clause-blackholes
returns-then-costs_fall-clause-blackholes g c = λ was is of.
    no_blackholes_at was is c.args.compared.now of c.args.address c.args.net c.deref.result.now c.deref.ensures.value
    (OnTrue_at c.if-costs_fall.true c.costs_fall.ensures) c.empty.result.blackholes c.empty.ensures.blackholes

pub returns-clause-loops : goal.returns-clause-loops
returns-clause-loops g c = λ was is of.
    subst (λ (graph : List StepValue). AreLoopsOf c.args.net graph c.in_ok-loops.loops.items) (c.in_ok-present.ensures is of.now) c.in_ok-loops.ensures

pub returns-clause-blackholes : goal.returns-clause-blackholes
returns-clause-blackholes g c = λ was is of.
    c.in_ok-blackholes.ensures
    ∙ ap (λ (graph : List StepValue). new_blackholes c.args.net graph c.in_ok-present.present) (c.in_ok-earlier.ensures was of.before)
    ∙ ap (λ (graph : List StepValue). new_blackholes c.args.net (graph_of was c.args.address) graph) (c.in_ok-present.ensures is of.now)
