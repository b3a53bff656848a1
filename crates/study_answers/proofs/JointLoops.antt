-- The loops that may come while routers change over, where there is a database before the edits.
use Rattle.std.proofs.Common.{◌≡◌, List, Option, Some, subst}
use Rattle.lsdb.specs.Lists.{Lists}
use Rattle.loop_report.specs.Loops.{AreJointLoops, LoopValue}
use Rattle.loop_report.specs.Parts.{AreAtAtoms}
use Rattle.study_answers.specs.Microloops.{AreMicroloops}

pub are_some : (db was : Lists) (before : Option Lists) (loops : List LoopValue) → Some was ≡ before → AreAtAtoms AreJointLoops was db loops
    → AreMicroloops db before (Some loops)
are_some db was before loops some are = subst (λ b. AreMicroloops db b (Some loops)) some are
