-- The documents about loops.
use Rattle.std.specs.Prelude.{◌≡◌, ℕ, List, Option, None, Some}
use Rattle.lsdb.specs.Lists.{Lists}
use Rattle.loop_report.specs.Blackholes.{AreNewBlackholes, BlackholeValue}
use Rattle.loop_report.specs.Loops.{AreJointLoops, AreLoopsNow, LoopValue}
use Rattle.loop_report.specs.Parts.{AreAtAtoms}
use Rattle.study_documents.specs.Replies.{loops_reply, microloops_reply}
use Rattle.study_answers.specs.Known.{too_few_done}
use Rattle.document_answers.specs.Documented.{DocumentedValue, HasMembers, refused}

-- loops, and new blackholes
unfoldable pub IsLoopsDocument : Lists → Lists → DocumentedValue → Type 0
IsLoopsDocument baseline db given =
    (loops : List LoopValue) × (blackholes : List BlackholeValue)
    × AreAtAtoms AreLoopsNow baseline db loops × AreAtAtoms AreNewBlackholes baseline db blackholes
    × HasMembers (loops_reply loops blackholes) given

-- what may loop while routers change over the last edits, by the database before them; where fewer edits are done, there is none
unfoldable pub IsMicroloopsDocument : Lists → ℕ → Option Lists → DocumentedValue → Type 0
IsMicroloopsDocument db count None given = given ≡ refused too_few_done
IsMicroloopsDocument db count (Some before) given =
    (loops : List LoopValue) × AreAtAtoms AreJointLoops before db loops × HasMembers (microloops_reply count loops) given

-- the same by what may loop
abbrev pub IsMicroloopsBy : ℕ → Option (List LoopValue) → DocumentedValue → Type 0
IsMicroloopsBy count None given = given ≡ refused too_few_done
IsMicroloopsBy count (Some loops) given = HasMembers (microloops_reply count loops) given
