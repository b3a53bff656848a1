-- How a run over files ends, and what it leaves in the rooms of a host.
use Rattle.std.specs.Prelude.{◌≡◌, ◌⊎◌, ◌<◌, ◌==◌, ℕ, Bool, true, false, if◌then◌else◌, List, [], ◌++◌, length}
use Rattle.capture_lines.specs.Endings.{exit_status, exit_text}
use Rattle.capture_slices.specs.Captured.{AreCaptured, Given, IsEnd}
use Rattle.capture_slices.specs.declared.fault.CaptureEnd.{CaptureEnd}
use Rattle.capture_slices.specs.declared.fault.CaptureEnd.TheVariants.{Fault, NotText}
use Rattle.lsa_instances.specs.declared.keeping.FlushedLsas.{FlushedLsas}
use Rattle.lsa_instances.specs.declared.keeping.FlushedLsas.TheVariants.{Kept, LeftOut}
use Rattle.plan_slices.specs.Room.{IsCopied}
use Rattle.ospf_plan_c.specs.Status.{IsReported, done, no_room, not_accepted, not_text}
use Rattle.ospf_plan_c.specs.declared.capturing.CaptureReport.{CaptureReport}

-- what becomes of flushed LSAs
abbrev pub flushed_if : Bool → FlushedLsas
flushed_if true = Kept
flushed_if false = LeftOut

-- the status of a run with these warnings
abbrev pub verdict_of : List ℕ → ℕ
verdict_of warnings = if length warnings == 0 then done else not_accepted

-- the report of a run with these texts: the lengths of the lines of files and of notices, of the warnings, and of the dump
abbrev pub report_of : List ℕ → List ℕ → List ℕ → List ℕ → CaptureReport
report_of lines notices warnings dump = record {
  output = length (lines ++ notices);
  contents = length lines;
  warnings = length warnings;
  dump = length dump;
}

-- the texts of a run are in their rooms, and the report has their lengths
pub record AreInRooms (A : Type 0) (flushed : FlushedLsas) (given : Given) (output new_output warnings new_warnings dump new_dump : List ℕ)
    (report : CaptureReport) (status : ℕ) : Type 0 where
  pub lines_text : List ℕ
  pub notices_text : List ℕ
  pub warnings_text : List ℕ
  pub dump_text : List ℕ
  pub captured : AreCaptured A flushed given lines_text notices_text warnings_text dump_text
  pub in_output : IsCopied (lines_text ++ notices_text) output new_output
  pub in_warnings : IsCopied warnings_text warnings new_warnings
  pub in_dump : IsCopied dump_text dump new_dump
  pub report_is : report ≡ report_of lines_text notices_text warnings_text dump_text
  pub verdict : status ≡ verdict_of warnings_text

-- a room is shorter than its text, and the report has the lengths
pub record LacksRoom (A : Type 0) (flushed : FlushedLsas) (given : Given) (output warnings dump : List ℕ) (report : CaptureReport)
    (status : ℕ) : Type 0 where
  pub lines_text : List ℕ
  pub notices_text : List ℕ
  pub warnings_text : List ℕ
  pub dump_text : List ℕ
  pub captured : AreCaptured A flushed given lines_text notices_text warnings_text dump_text
  pub too_small : (length output < length (lines_text ++ notices_text))
      ⊎ ((length warnings < length warnings_text) ⊎ (length dump < length dump_text))
  pub report_is : report ≡ report_of lines_text notices_text warnings_text dump_text
  pub verdict : status ≡ no_room

-- ---- runs that end early

-- the status of a run that ended early, that of the program for the same fault
abbrev pub end_status : CaptureEnd → ℕ
end_status NotText = not_text
end_status (Fault fault) = exit_status fault

-- its line, the one of the program; there is none for a name that is not text
abbrev pub end_text : CaptureEnd → List ℕ
end_text NotText = []
end_text (Fault fault) = exit_text fault

-- the report of a run that ended early, whose line has this length
abbrev pub no_texts : ℕ → CaptureReport
no_texts warnings = record { output = 0; contents = 0; warnings = warnings; dump = 0 }

-- a run over files ended early, with its status and its line
pub record EndsEarly (A : Type 0) (flushed : FlushedLsas) (given : Given) (warnings new_warnings : List ℕ) (report : CaptureReport)
    (status : ℕ) : Type 0 where
  pub end : CaptureEnd
  pub may_end : IsEnd A flushed given end
  pub reported : IsReported (end_text end) report.warnings warnings new_warnings
  pub report_is : report ≡ no_texts report.warnings
  pub verdict : status ≡ end_status end
