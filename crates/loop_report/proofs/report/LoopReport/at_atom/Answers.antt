use Rattle.std.proofs.Common.{◌≡◌, refl}
use Rattle.std.proofs.lemmas.Result.{IfOk-weaker}
use Rattle.lsdb.specs.Lists.{Lists}
use Rattle.forwarding.specs.Graphs.{graph_of}
use Rattle.loop_report.specs.Blackholes.{AreNewBlackholes, new_blackholes}
use Rattle.loop_report.specs.Loops.{AreLoopsNow, AreLoopsOf}
use Rattle.loop_report.specs.Parts.{IsAtAtom}
use Rattle.loop_report.specs.steps.Comparing.{IsComparedOf}
use Rattle.loop_report.proofs.Parted.{at_none, at_one}
use Rattle.loop_report.proofs.report.LoopReport.at_atom.Goals as goal

pub returns-in_default-clause-loops : goal.returns-in_default-clause-loops
returns-in_default-clause-loops g c = λ was is of.
    at_none AreLoopsNow was is c.args.net c.args.compared.now.atoms of.atoms c.empty.result.loops c.in_default.ensures c.empty.ensures.loops

pub returns-in_default-clause-blackholes : goal.returns-in_default-clause-blackholes
returns-in_default-clause-blackholes g c = λ was is of.
    at_none AreNewBlackholes was is c.args.net c.args.compared.now.atoms of.atoms c.empty.result.blackholes c.in_default.ensures c.empty.ensures.blackholes

pub returns-clause-loops : goal.returns-clause-loops
returns-clause-loops g c =
    IfOk-weaker c.at_address.result
    (λ report. (was is : Lists) → IsComparedOf was is c.args.compared.now → AreLoopsOf c.args.net (graph_of is c.in-Some.address) report.loops)
    (λ report. (was is : Lists) → IsComparedOf was is c.args.compared.now → IsAtAtom AreLoopsNow was is c.args.net report.loops)
    (λ report found was is of.
    at_one AreLoopsNow was is c.args.net c.args.compared.now.atoms of.atoms report.loops c.in-Some.address (graph_of was c.in-Some.address)
    (graph_of is c.in-Some.address) c.in-Some.ensures refl refl (found was is of)) c.at_address.ensures.loops

pub returns-clause-blackholes : goal.returns-clause-blackholes
returns-clause-blackholes g c =
    IfOk-weaker c.at_address.result
    (λ report. (was is : Lists) → IsComparedOf was is c.args.compared.now
    → report.blackholes ≡ new_blackholes c.args.net (graph_of was c.in-Some.address) (graph_of is c.in-Some.address))
    (λ report. (was is : Lists) → IsComparedOf was is c.args.compared.now → IsAtAtom AreNewBlackholes was is c.args.net report.blackholes)
    (λ report found was is of.
    at_one AreNewBlackholes was is c.args.net c.args.compared.now.atoms of.atoms report.blackholes c.in-Some.address (graph_of was c.in-Some.address)
    (graph_of is c.in-Some.address) c.in-Some.ensures refl refl (found was is of)) c.at_address.ensures.blackholes
