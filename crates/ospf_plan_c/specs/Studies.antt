-- How a study ends, and what it leaves in the rooms of a host.
use Rattle.std.specs.Prelude.{◌≡◌, ◌<◌, ◌⊎◌, ℕ, Bool, true, false, if◌then◌else◌, List, Option, None, Some, length}
use Rattle.plan_slices.specs.Room.{IsCopied}
use Rattle.study_session.specs.declared.format.Format.{Format}
use Rattle.study_session.specs.declared.format.Format.TheVariants.{Text, Json}
use Rattle.study_slices.specs.Ends.{end_text}
use Rattle.study_slices.specs.Studied.{AreStudied}
use Rattle.whole_study.specs.Calls.{MayEndRun}
use Rattle.whole_study.specs.Given.{Given}
use Rattle.whole_study.specs.Run.{has_passed}
use Rattle.whole_study.specs.declared.fault.RunFault.{RunFault}
use Rattle.whole_study.specs.declared.fault.RunFault.TheVariants as ends
use Rattle.whole_study.specs.declared.running.Manner.{Manner}
use Rattle.whole_study.specs.declared.summary.Summary.{Summary}
use Rattle.ospf_plan_c.specs.Status.{IsReported, done, no_memory, no_room, not_accepted, refused, too_large}
use Rattle.ospf_plan_c.specs.declared.studying.StudyManner.{StudyManner}
use Rattle.ospf_plan_c.specs.declared.studying.StudyReport.{StudyReport}

abbrev pub format_if : Bool → Format
format_if true = Json
format_if false = Text

-- how a host asks for a run
abbrev pub manner_of : StudyManner → Manner
manner_of manner = record {
  keep_going = manner.keep_going;
  wants_dump = manner.wants_dump;
  is_verbose = manner.verbose;
  format = format_if manner.json;
}

-- an input, where it is given
abbrev pub given_if : Bool → List ℕ → Option (List ℕ)
given_if true bytes = Some bytes
given_if false bytes = None

-- the report of a study with texts of these lengths, and these counts
abbrev pub report_of : ℕ → ℕ → ℕ → Summary → StudyReport
report_of replies errors dump summary = record {
  replies = replies;
  errors = errors;
  dump = dump;
  lines = summary.lines;
  refused = summary.refused;
  expectations = summary.expectations;
  failed = summary.failed;
}

-- the texts of a study are in their rooms, and the report has their lengths and what was counted
pub record AreInRooms (manner : Manner) (given : Given) (replies new_replies errors new_errors left new_left : List ℕ)
    (report : StudyReport) (status : ℕ) : Type 0 where
  pub replies_text : List ℕ
  pub errors_text : List ℕ
  pub dump_text : List ℕ
  pub summary : Summary
  pub studied : AreStudied manner given replies_text errors_text dump_text summary
  pub in_replies : IsCopied replies_text replies new_replies
  pub in_errors : IsCopied errors_text errors new_errors
  pub in_left : IsCopied dump_text left new_left
  pub report_is : report ≡ report_of (length replies_text) (length errors_text) (length dump_text) summary
  pub verdict : status ≡ (if has_passed summary then done else not_accepted)

-- a room is shorter than its text, and the report has the lengths and what was counted
pub record LacksRoom (manner : Manner) (given : Given) (replies errors left : List ℕ) (report : StudyReport) (status : ℕ) : Type 0 where
  pub replies_text : List ℕ
  pub errors_text : List ℕ
  pub dump_text : List ℕ
  pub summary : Summary
  pub studied : AreStudied manner given replies_text errors_text dump_text summary
  pub too_small : (length replies < length replies_text) ⊎ ((length errors < length errors_text) ⊎ (length left < length dump_text))
  pub report_is : report ≡ report_of (length replies_text) (length errors_text) (length dump_text) summary
  pub verdict : status ≡ no_room

-- the status of a run that ended early, the one of the program for the same fault; a write to memory fails for want of it
abbrev pub study_status : {A : Type 0} → RunFault A → ℕ
study_status (ends.Dump fault) = refused
study_status (ends.Baseline fault) = refused
study_status (ends.Names refusal) = refused
study_status ends.Read = too_large
study_status ends.Write = no_memory
study_status ends.TooLarge = too_large
study_status ends.OutOfMemory = no_memory

-- the report of a study that ended early, whose line has this length
abbrev pub no_texts : ℕ → StudyReport
no_texts errors = record { replies = 0; errors = errors; dump = 0; lines = 0; refused = 0; expectations = 0; failed = 0 }

-- a study ended early, with its status and its line
pub record EndsEarly (A : Type 0) (given : Given) (errors new_errors : List ℕ) (report : StudyReport) (status : ℕ) : Type 0 where
  pub end : RunFault A
  pub may_end : MayEndRun given end
  pub reported : IsReported (end_text end) report.errors errors new_errors
  pub report_is : report ≡ no_texts report.errors
  pub verdict : status ≡ study_status end
