-- The JSON of failures, and of what each takes away, as `sweep` answers it.
use Rattle.std.specs.Prelude.{[], ◌∷◌, codes}
use Rattle.json.specs.Json.{Json, null, string}
use Rattle.edit_script.specs.Spelling.{spelling}
use Rattle.edit_history.specs.Fault.{code_of, name_of}
use Rattle.edit_history.specs.declared.fault.EditFault.{EditFault}
use Rattle.sweep_report.specs.declared.counts.FailureCounts.{FailureCounts}
use Rattle.sweep_report.specs.declared.outcome.FailureLine.{FailureLine}
use Rattle.sweep_report.specs.declared.outcome.Outcome.{Outcome}
use Rattle.sweep_report.specs.declared.outcome.Outcome.TheVariants.{Counted, Refused}
use Rattle.study_json.specs.Fields.{Fields, object_of}
use Rattle.study_json.specs.Leaves.{number_json}

abbrev pub failure_counts_json : FailureCounts → Json
failure_counts_json counts =
    object_of
    ((codes "lost", number_json counts.lost) ∷ (codes "gone", number_json counts.gone) ∷ (codes "dearer", number_json counts.dearer)
    ∷ (codes "moved", number_json counts.moved) ∷ (codes "loops", number_json counts.loops) ∷ [])

abbrev pub fault_json : EditFault → Json
fault_json fault = object_of ((codes "code", string (code_of fault)) ∷ (codes "name", string (name_of fault)) ∷ [])

-- what comes of a failure: its counts, or why it is refused
abbrev pub outcome_fields : Outcome → Fields
outcome_fields (Counted counts) = (codes "counts", failure_counts_json counts) ∷ (codes "refused", null) ∷ []
outcome_fields (Refused fault) = (codes "counts", null) ∷ (codes "refused", fault_json fault) ∷ []

-- the edit as `log` spells it, and what comes of it
abbrev pub failure_json : FailureLine → Json
failure_json line = object_of ((codes "edit", string (spelling line.edit)) ∷ outcome_fields line.outcome)
