-- What may loop while routers change over: the loops, if the edits that a line names are done.
use Rattle.std.specs.Prelude.{◌≡◌, List, Option, None, Some}
use Rattle.lsdb.specs.Lists.{Lists}
use Rattle.loop_report.specs.Loops.{AreJointLoops, LoopValue}
use Rattle.loop_report.specs.Parts.{AreAtAtoms}

-- by the database before the edits, if there is one
abbrev pub AreMicroloops : Lists → Option Lists → Option (List LoopValue) → Type 0
AreMicroloops db None found = found ≡ None
AreMicroloops db (Some before) None = ⊥
AreMicroloops db (Some before) (Some loops) = AreAtAtoms AreJointLoops before db loops
