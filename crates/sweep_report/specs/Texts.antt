-- The lines of failures, and how many of them have each effect.
use Rattle.std.specs.Prelude.{ℕ, ◌==◌, not, Bool, true, false, List, ◌++◌, length, filter, codes, decimal}
use Rattle.edit_script.specs.Spelling.{spelling}
use Rattle.edit_history.specs.Fault.{code_of, name_of}
use Rattle.edit_history.specs.declared.fault.EditFault.{EditFault}
use Rattle.study_text.specs.Shown.{Called}
use Rattle.sweep_report.specs.declared.counts.FailureCounts.{FailureCounts}
use Rattle.sweep_report.specs.declared.effect.Effect.{Effect}
use Rattle.sweep_report.specs.declared.effect.Effect.TheVariants as effects
use Rattle.sweep_report.specs.declared.outcome.FailureLine.{FailureLine}
use Rattle.sweep_report.specs.declared.outcome.Outcome.{Outcome}
use Rattle.sweep_report.specs.declared.outcome.Outcome.TheVariants.{Counted, Refused}

-- the words of the effects, as a line has them
abbrev pub effect_text : Effect → List ℕ
effect_text effects.Lost = codes "lost"
effect_text effects.Gone = codes "gone"
effect_text effects.Dearer = codes "dearer"
effect_text effects.Moved = codes "moved"
effect_text effects.Loops = codes "loops"
effect_text effects.Refused = codes "refused"

-- ---- one line

-- `lost 3 gone 1 dearer 2 moved 0 loops 0`
abbrev pub counts_text : FailureCounts → List ℕ
counts_text counts =
    (codes "lost " ++ decimal counts.lost) ++ (codes " gone " ++ decimal counts.gone) ++ (codes " dearer " ++ decimal counts.dearer)
    ++ (codes " moved " ++ decimal counts.moved) ++ (codes " loops " ++ decimal counts.loops)

-- `refused E15 UnclearEnd`
abbrev pub refused_text : EditFault → List ℕ
refused_text fault = codes "refused " ++ code_of fault ++ codes " " ++ name_of fault

abbrev pub outcome_text : Outcome → List ℕ
outcome_text (Counted counts) = counts_text counts
outcome_text (Refused fault) = refused_text fault

-- the edit as `log` spells it, and what comes of it; routers are shown by their Router IDs
abbrev pub failure_line : Called → FailureLine → List ℕ
failure_line called line = spelling line.edit ++ codes ": " ++ outcome_text line.outcome

-- ---- all lines

-- a count that is not 0
abbrev pub counts_effect : Effect → FailureCounts → Bool
counts_effect effects.Lost counts = not (counts.lost == 0)
counts_effect effects.Gone counts = not (counts.gone == 0)
counts_effect effects.Dearer counts = not (counts.dearer == 0)
counts_effect effects.Moved counts = not (counts.moved == 0)
counts_effect effects.Loops counts = not (counts.loops == 0)
counts_effect effects.Refused counts = false

-- nothing but the refusal is known of a failure that is refused
abbrev pub refusal_effect : Effect → Bool
refusal_effect effects.Refused = true
refusal_effect effect = false

abbrev pub outcome_effect : Effect → Outcome → Bool
outcome_effect effect (Counted counts) = counts_effect effect counts
outcome_effect effect (Refused fault) = refusal_effect effect

-- whether a failure has an effect
abbrev pub has_effect : Effect → FailureLine → Bool
has_effect effect line = outcome_effect effect line.outcome

-- how many of some failures have an effect
abbrev pub count_with : Effect → List FailureLine → ℕ
count_with effect lines = length (filter (has_effect effect) lines)

-- ` lost 1`, where one of the failures has the effect
abbrev pub total_text : Effect → List FailureLine → List ℕ
total_text effect lines = codes " " ++ effect_text effect ++ codes " " ++ decimal (count_with effect lines)

-- the same of all effects, one after another
abbrev pub totals_text : List FailureLine → List ℕ
totals_text lines =
    total_text effects.Lost lines ++ total_text effects.Gone lines ++ total_text effects.Dearer lines
    ++ total_text effects.Moved lines ++ total_text effects.Loops lines ++ total_text effects.Refused lines
