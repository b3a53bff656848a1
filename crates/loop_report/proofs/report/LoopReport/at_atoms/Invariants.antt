use Rattle.std.proofs.Common.{take}
use Rattle.lsdb.specs.Lists.{Lists}
use Rattle.loop_report.specs.Blackholes.{AreNewBlackholes}
use Rattle.loop_report.specs.Loops.{AreLoopsNow}
use Rattle.loop_report.specs.Parts.{AreParts, IsAtAtom}
use Rattle.loop_report.specs.steps.Comparing.{IsComparedOf}
use Rattle.loop_report.proofs.report.LoopReport.at_atoms.Given as goal

-- the parts of the prefixes so far
abbrev pub invariant-loop-net : goal.invariant-loop-net
invariant-loop-net g l = record {
  loops : (was is : Lists) → IsComparedOf was is l.compared → AreParts (IsAtAtom AreLoopsNow was is) (take l.net-index l.nets) l.report.loops;
  blackholes : (was is : Lists) → IsComparedOf was is l.compared → AreParts (IsAtAtom AreNewBlackholes was is) (take l.net-index l.nets) l.report.blackholes;
}
