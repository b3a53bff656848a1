-- Lines that are carried out, one after another.
use Rattle.std.specs.Prelude.{◌≡◌, ℕ, Bool, true, false, List, [], ◌++◌, Option}
use Rattle.std.specs.Io.KnownBytes.{Appends}
use Rattle.host_io.specs.Watched.{inner_of}
use Rattle.host_io.specs.WholeText.{AppendsPrefix}
use Rattle.study_session.specs.Studies.{Study}
use Rattle.whole_study.specs.Lines.{Line}
use Rattle.whole_study.specs.Run.{Answered, AreAnswered, GivesFirst, StopsAtLast, errors_of, goes_on, replies_of, study_after, summary_of}
use Rattle.whole_study.specs.declared.output.Line.{Line as PlacedLine}
use Rattle.whole_study.specs.declared.output.Output.{Output}
use Rattle.whole_study.specs.declared.summary.Summary.{Summary}

-- a line as code has it
abbrev pub line_at : PlacedLine → Line
line_at line = record { file = line.file.now; number = line.number; text = line.text.now }

-- what is known of both writers
pub record Written : Type 0 where
  pub replies : Option (List ℕ)
  pub errors : Option (List ℕ)

abbrev pub written : {W E : Type 0} → (W → Option (List ℕ)) → (E → Option (List ℕ)) → Output W E → Written
written of_replies of_errors output = record { replies = of_replies (inner_of output.replies); errors = of_errors (inner_of output.errors) }

-- the run goes on after all lines, or it has stopped
abbrev pub IsStopBy : Bool → Bool → List Line → List Answered → Type 0
IsStopBy keep_going true left given = (left ≡ []) × (goes_on keep_going given ≡ true)
IsStopBy keep_going false left given = (keep_going ≡ false) × StopsAtLast given

-- lines are carried out, up to the first that is not accepted unless the run keeps going: what is given, written and counted,
-- whether the run goes on, and the study after them
pub record CarriesOut (keep_going : Bool) (s : Study) (lines : List Line) (old : Written) (before : Summary)
    (on : Bool) (after : Study) (new : Written) (counted : Summary) : Type 0 where
  pub front : List Line
  pub left : List Line
  pub split : lines ≡ front ++ left
  pub given : List Answered
  pub answered : AreAnswered s front given
  pub stop : IsStopBy keep_going on left given
  pub study : after ≡ study_after s front
  pub replies : Appends old.replies new.replies (replies_of given)
  pub errors : Appends old.errors new.errors (errors_of given)
  pub summary : (done : List Answered) → before ≡ summary_of done → counted ≡ summary_of (done ++ given)

-- a prefix of what is written of the first of these lines
pub record WritesPart (keep_going : Bool) (s : Study) (lines : List Line) (old new : Written) : Type 0 where
  pub given : List Answered
  pub gives : GivesFirst keep_going s lines given
  pub replies : AppendsPrefix old.replies new.replies (replies_of given)
  pub errors : AppendsPrefix old.errors new.errors (errors_of given)
