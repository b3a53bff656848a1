-- A run at a terminal: its only study is what is typed, and each line is asked for and answered before the next.
use Rattle.std.specs.Prelude.{◌≡◌, ℕ, ◌||◌, Bool, true, List, [], ◌∷◌, ◌++◌, Option, codes}
use Rattle.std.specs.List.{flat_map}
use Rattle.std.specs.Io.KnownBytes.{Appends, Consumes}
use Rattle.host_io.specs.Watched.{inner_of, has_failed}
use Rattle.host_io.specs.WholeText.{AppendsPrefix}
use Rattle.study_session.specs.Studies.{Study}
use Rattle.whole_study.specs.Calls.{WritesPrefix}
use Rattle.whole_study.specs.Given.{Given, NamedText}
use Rattle.whole_study.specs.Lines.{Line, study_lines}
use Rattle.whole_study.specs.Run.{Answered, AreAnswered, errors_of, replies_of}
use Rattle.whole_study.specs.declared.output.Output.{Output}
use Rattle.whole_study.specs.declared.running.Manner.{Manner}
use Rattle.whole_study.specs.declared.typing.Terminal.{Terminal}

-- ---- the lines

-- what is typed, as a study with the name of standard input
abbrev pub typed_study : List ℕ → NamedText
typed_study text = record { name = codes "-"; text = text }

abbrev pub typed_lines : List ℕ → List Line
typed_lines text = study_lines (typed_study text)

-- what a run is given, where this is typed
abbrev pub with_typed : Given → List ℕ → Given
with_typed given text = record given { studies = typed_study text ∷ [] }

-- at a terminal a run keeps going
abbrev pub at_terminal : Manner → Manner
at_terminal manner = record manner { keep_going = true }

-- ---- the prompts

-- what asks for a line
abbrev pub prompt_text : List ℕ
prompt_text = codes "ospf-study> "

-- one prompt for each line, of which the last is empty where a line feed ends the text
abbrev pub prompts_for : List Line → List ℕ
prompts_for lines = flat_map (λ line. prompt_text) lines

-- ---- what was typed and written so far

-- what is known of the streams: the bytes that are still to be typed, and those that are written
pub record Known : Type 0 where
  pub typed : Option (List ℕ)
  pub prompts : Option (List ℕ)
  pub replies : Option (List ℕ)
  pub errors : Option (List ℕ)

abbrev pub known : {I P W E : Type 0} → (I → Option (List ℕ)) → (P → Option (List ℕ)) → (W → Option (List ℕ)) → (E → Option (List ℕ))
    → Terminal I P → Output W E → Known
known of_input of_prompts of_replies of_errors terminal output = record {
  typed = of_input (inner_of terminal.input);
  prompts = of_prompts (inner_of terminal.prompts);
  replies = of_replies (inner_of output.replies);
  errors = of_errors (inner_of output.errors);
}

-- this was typed, and what is written is a prefix of the prompts for its lines and of their replies
pub record Converses (s : Study) (text : List ℕ) (old new : Known) : Type 0 where
  pub typed : Consumes old.typed new.typed text
  pub prompts : AppendsPrefix old.prompts new.prompts (prompts_for (typed_lines text))
  pub written : WritesPrefix true s (typed_lines text) old.replies new.replies old.errors new.errors

-- the last line of what was typed is awaited: it was asked for, and all lines before it are answered
pub record Awaits (s : Study) (text : List ℕ) (old new : Known) : Type 0 where
  pub whole : List Line
  pub begun : Line
  pub split : typed_lines text ≡ whole ++ begun ∷ []
  pub given : List Answered
  pub answered : AreAnswered s whole given
  pub prompts : Appends old.prompts new.prompts (prompts_for (typed_lines text))
  pub replies : Appends old.replies new.replies (replies_of given)
  pub errors : Appends old.errors new.errors (errors_of given)

-- ---- faults

abbrev pub has_terminal_failed : {I P : Type 0} → Terminal I P → Bool
has_terminal_failed terminal = has_failed terminal.input || has_failed terminal.prompts
