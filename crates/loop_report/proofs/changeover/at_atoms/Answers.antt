use Rattle.std.proofs.Common.{List, subst}
use Rattle.std.proofs.lemmas.List.{take_all}
use Rattle.lsa_codec.specs.Prefix.{Net}
use Rattle.loop_report.specs.Loops.{AreJointLoops}
use Rattle.loop_report.specs.Parts.{AreParts, IsAtAtom}
use Rattle.loop_report.proofs.Parted.{parts_more}
use Rattle.loop_report.proofs.changeover.at_atoms.Goals as goal

pub loop-net-init : goal.loop-net-init
loop-net-init g c = λ was is of. c.new-loops.ensures.items

pub loop-net-preserved : goal.loop-net-preserved
loop-net-preserved g c = λ was is of.
    parts_more (IsAtAtom AreJointLoops was is) c.args.nets.now c.loop-net.net-index c.net-item.result c.loop-net-test.true c.net-item.is _ _ _
    (c.loop-net.invariant was is of) (c.in_ok-part.ensures was is of) c.in_ok-append.ensures.items

pub returns : goal.returns
returns g c = λ was is of.
    subst (λ (l : List Net). AreParts (IsAtAtom AreJointLoops was is) l c.loop-net.loops.items)
    (take_all c.loop-net.net-index c.args.nets.now c.loop-net-test.false) (c.loop-net.invariant was is of)
