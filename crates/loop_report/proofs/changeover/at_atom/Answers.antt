use Rattle.std.proofs.lemmas.Result.{IfOk-weaker}
use Rattle.lsdb.specs.Lists.{Lists}
use Rattle.loop_report.specs.Loops.{AreJointLoops}
use Rattle.loop_report.specs.Parts.{IsAtAtom}
use Rattle.loop_report.specs.steps.Comparing.{IsComparedOf}
use Rattle.loop_report.proofs.Parted.{at_none, at_one}
use Rattle.loop_report.proofs.changeover.at_atom.Goals as goal

pub returns-in_default : goal.returns-in_default
returns-in_default g c = λ was is of.
    at_none AreJointLoops was is c.args.net c.args.compared.now.atoms of.atoms c.new.result.items c.in_default.ensures c.new.ensures.items

pub returns : goal.returns
returns g c =
    IfOk-weaker c.joint_loops_at.result (λ loops. AreJointLoops c.args.net c.in_ok-earlier.earlier c.in_ok-present.present loops.items)
    (λ loops. (was is : Lists) → IsComparedOf was is c.args.compared.now → IsAtAtom AreJointLoops was is c.args.net loops.items)
    (λ loops found was is of.
    at_one AreJointLoops was is c.args.net c.args.compared.now.atoms of.atoms loops.items c.in-Some.address c.in_ok-earlier.earlier c.in_ok-present.present c.in-Some.ensures
    (c.in_ok-earlier.ensures was of.before) (c.in_ok-present.ensures is of.now) found) c.joint_loops_at.ensures
