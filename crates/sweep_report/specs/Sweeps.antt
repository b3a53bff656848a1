-- What each failure does to a database by itself: the database after its edit alone, beside the one before.
use Rattle.std.specs.Prelude.{◌≡◌, ℕ, List, length, Ok, Err}
use Rattle.std.specs.List.{AllZip}
use Rattle.lsdb.specs.Lists.{Lists}
use Rattle.edit_script.specs.declared.edit.Edit.{Edit}
use Rattle.edit_history.specs.Effect.{effect}
use Rattle.change_lines.specs.declared.change_name.ChangeName.{ChangeName}
use Rattle.change_lines.specs.declared.group.ChangeGroup.TheVariants as group
use Rattle.change_lines.specs.Groups.{count_of}
use Rattle.comparison.specs.Compared.{Compared}
use Rattle.comparison.specs.Named.{all_changes}
use Rattle.loop_report.specs.Loops.{AreLoopsNow, LoopValue}
use Rattle.loop_report.specs.Parts.{AreAtAtoms}
use Rattle.sweep_report.specs.declared.counts.FailureCounts.{FailureCounts}
use Rattle.sweep_report.specs.declared.outcome.FailureLine.{FailureLine}
use Rattle.sweep_report.specs.declared.outcome.Outcome.{Outcome}
use Rattle.sweep_report.specs.declared.outcome.Outcome.TheVariants.{Counted, Refused}

-- ---- one failure

abbrev pub compared : Lists → Lists → Compared
compared db after = record { baseline = db; present = after }

-- what differs for all routers
abbrev pub changes_of : Lists → Lists → List ChangeName
changes_of db after = (all_changes (compared db after)).names

-- the number of loops of the database after it
abbrev pub IsLoopCount : Lists → Lists → ℕ → Type 0
IsLoopCount db after count = (loops : List LoopValue) × AreAtAtoms AreLoopsNow db after loops × (count ≡ length loops)

-- what is lost after it, as `changes` counts it, and the loops, as `loops` counts them
pub record AreCounts (db after : Lists) (counts : FailureCounts) : Type 0 where
  pub lost : counts.lost ≡ count_of group.Lost (changes_of db after)
  pub gone : counts.gone ≡ count_of group.Gone (changes_of db after)
  pub dearer : counts.dearer ≡ count_of group.Dearer (changes_of db after)
  pub moved : counts.moved ≡ count_of group.Moved (changes_of db after)
  pub loops : IsLoopCount db after counts.loops

-- the counts are those of the database after the edit alone, or the edit is refused
abbrev pub IsOutcome : Lists → Edit → Outcome → Type 0
IsOutcome db edit (Counted counts) = (after : Lists) × (effect db edit ≡ Ok after) × AreCounts db after counts
IsOutcome db edit (Refused fault) = effect db edit ≡ Err fault

-- the line of a failure has its edit, and what comes of it
pub record IsLineOf (db : Lists) (edit : Edit) (line : FailureLine) : Type 0 where
  pub same : line.edit ≡ edit
  pub outcome : IsOutcome db edit line.outcome

-- ---- all failures

-- a line for each failure, in their order, each by itself
abbrev pub AreLines : Lists → List Edit → List FailureLine → Type 0
AreLines db edits lines = AllZip (IsLineOf db) edits lines
