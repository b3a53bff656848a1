use Rattle.std.proofs.Common.{List, subst}
use Rattle.std.proofs.lemmas.List.{take_all}
use Rattle.lsa_codec.specs.Prefix.{Net}
use Rattle.loop_report.specs.Blackholes.{AreNewBlackholes}
use Rattle.loop_report.specs.Loops.{AreLoopsNow}
use Rattle.loop_report.specs.Parts.{AreParts, IsAtAtom}
use Rattle.loop_report.proofs.Parted.{parts_more}
use Rattle.loop_report.proofs.report.LoopReport.at_atoms.Goals as goal

pub loop-net-init : goal.loop-net-init
loop-net-init g c = record { loops = λ was is of. c.empty-report.ensures.loops; blackholes = λ was is of. c.empty-report.ensures.blackholes }

pub loop-net-preserved : goal.loop-net-preserved
loop-net-preserved g c =
    let nets = c.args.nets.now in
    let i = c.loop-net.net-index in
    let net = c.net-item.result in
    record {
      loops = λ was is of. parts_more (IsAtAtom AreLoopsNow was is) nets i net c.loop-net-test.true c.net-item.is _ _ _ (c.loop-net.invariant.loops was is of)
          (c.in_ok-at_atom.ensures.loops was is of) c.in_ok-append.ensures.loops;
      blackholes = λ was is of. parts_more (IsAtAtom AreNewBlackholes was is) nets i net c.loop-net-test.true c.net-item.is _ _ _ (c.loop-net.invariant.blackholes was is of)
          (c.in_ok-at_atom.ensures.blackholes was is of) c.in_ok-append.ensures.blackholes;
    }

pub returns-clause-loops : goal.returns-clause-loops
returns-clause-loops g c = λ was is of.
    subst (λ (l : List Net). AreParts (IsAtAtom AreLoopsNow was is) l c.loop-net.report.loops)
    (take_all c.loop-net.net-index c.args.nets.now c.loop-net-test.false) (c.loop-net.invariant.loops was is of)

pub returns-clause-blackholes : goal.returns-clause-blackholes
returns-clause-blackholes g c = λ was is of.
    subst (λ (l : List Net). AreParts (IsAtAtom AreNewBlackholes was is) l c.loop-net.report.blackholes)
    (take_all c.loop-net.net-index c.args.nets.now c.loop-net-test.false) (c.loop-net.invariant.blackholes was is of)
