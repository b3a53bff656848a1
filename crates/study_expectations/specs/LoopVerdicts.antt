-- Conditions about loops.
use Rattle.std.specs.Prelude.{◌≡◌, ℕ, List, map, Option, None, Some, codes}
use Rattle.lsdb.specs.Lists.{Lists}
use Rattle.study_text.specs.Shown.{Called}
use Rattle.loop_report.specs.Blackholes.{AreNewBlackholes, BlackholeValue}
use Rattle.loop_report.specs.Loops.{AreJointLoops, AreLoopsNow, LoopValue}
use Rattle.loop_report.specs.Parts.{AreAtAtoms}
use Rattle.loop_report.specs.Texts.{blackhole_text, loop_text}
use Rattle.study_answers.specs.Known.{too_few_done}
use Rattle.study_expectations.specs.Verdicts.{VerdictValue, counted_text, found, is_none, unknown}

abbrev pub loops_found : Called → List ℕ → List LoopValue → VerdictValue
loops_found called word loops = found (is_none loops) (counted_text word (map (loop_text called) loops))

module _ (called : Called) (baseline db : Lists) where
  unfoldable pub IsLoopsVerdict : VerdictValue → Type 0
  IsLoopsVerdict verdict = (loops : List LoopValue) × AreAtAtoms AreLoopsNow baseline db loops × (verdict ≡ loops_found called (codes "loops") loops)

  unfoldable pub IsBlackholesVerdict : VerdictValue → Type 0
  IsBlackholesVerdict verdict =
      (blackholes : List BlackholeValue) × AreAtAtoms AreNewBlackholes baseline db blackholes
      × (verdict ≡ found (is_none blackholes) (counted_text (codes "blackholes") (map (blackhole_text called) blackholes)))

-- by the database before the last edits; where fewer edits are done, there is none
unfoldable pub IsMicroloopsVerdict : Called → Lists → Option Lists → VerdictValue → Type 0
IsMicroloopsVerdict called db None verdict = verdict ≡ unknown too_few_done
IsMicroloopsVerdict called db (Some before) verdict =
    (loops : List LoopValue) × AreAtAtoms AreJointLoops before db loops × (verdict ≡ loops_found called (codes "microloops") loops)
