-- What a line is answered.
use Rattle.std.specs.Prelude.{ℕ, Bool, true, false, List, [], ◌++◌, codes}
use Rattle.branches.specs.Replies.{mark_of, reported_text}
use Rattle.text_words.specs.Words.{Word}
use Rattle.edit_script.specs.Words.{words}
use Rattle.study_arguments.specs.Fault.{FaultAt, code_of, name_of}
use Rattle.study_arguments.specs.Values.{Lookup}
use Rattle.study_hints.specs.Hints.{fault_text}
use Rattle.study_answers.specs.declared.answer.Outcome.{Outcome}
use Rattle.study_answers.specs.declared.answer.Outcome.TheVariants as outcome

-- the text that answers a line, what became of the line, what is said of it where it is not accepted, and whether it is an
-- expectation that was neither faulty nor refused
pub record AnswerValue : Type 0 where
  pub text : List ℕ
  pub outcome : Outcome
  pub error : List ℕ
  pub is_expectation : Bool

-- ---- answers by what became of the line

unfoldable pub accepted_answer : List ℕ → AnswerValue
accepted_answer text = record { text = text; outcome = outcome.Accepted; error = []; is_expectation = false }

-- a word, and after it a code and a name
abbrev pub reason : List ℕ → List ℕ × List ℕ → List ℕ
reason word texts = word ++ texts.0 ++ codes " " ++ texts.1

-- a command, a question or an expectation is refused
unfoldable pub refused_answer : ℕ → List ℕ × List ℕ → AnswerValue
refused_answer branch texts = record {
  text = mark_of branch ++ reported_text (codes "refused ") texts;
  outcome = outcome.Refused;
  error = reason (codes "refused ") texts;
  is_expectation = false;
}

-- an expectation holds
unfoldable pub held_answer : ℕ → AnswerValue
held_answer branch = record { text = mark_of branch ++ codes "ok\n"; outcome = outcome.Accepted; error = []; is_expectation = true }

-- it does not, by what was found
unfoldable pub failed_answer : ℕ → List ℕ → AnswerValue
failed_answer branch found = record {
  text = mark_of branch ++ codes "failed " ++ found ++ codes "\n";
  outcome = outcome.Failed;
  error = codes "failed " ++ found;
  is_expectation = true;
}

-- the line has a fault
unfoldable pub fault_answer : Lookup → List Word → List ℕ → FaultAt → AnswerValue
fault_answer names known line fault = record {
  text = reported_text (codes "script ") (code_of fault.0, name_of fault.0);
  outcome = outcome.Refused;
  error = fault_text names known (words line) fault;
  is_expectation = false;
}
