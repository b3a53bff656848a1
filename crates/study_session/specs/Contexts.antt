-- Where a line is carried out, and what is known there.
use Rattle.std.specs.Prelude.{ℕ, Bool, List, length}
use Rattle.lsdb.specs.Lists.{Lists}
use Rattle.lsdb.specs.Slots.{lists_of}
use Rattle.network_names.specs.Names.{called, stands_for}
use Rattle.edit_history.specs.Session.{Session, state}
use Rattle.edit_script.specs.Words.{words}
use Rattle.text_words.specs.Words.{Word}
use Rattle.study_arguments.specs.Values.{Lookup}
use Rattle.study_text.specs.Shown.{Called}
use Rattle.study_hints.specs.Hints.{command_at}
use Rattle.refusal_hints.specs.Situation.{SituationValue}
use Rattle.study_session.specs.declared.context.Context.{Context}
use Rattle.study_session.specs.Studies.{Study}
use Rattle.study_session.specs.declared.format.Format.{Format}

-- what routers are called and names stand for, the baseline, the words from the command word on, the branch, and whether each
-- edit says what it changed; and the form of the answers
pub record ContextValue : Type 0 where
  pub called : Called
  pub lookup : Lookup
  pub baseline : Lists
  pub words : List Word
  pub branch : ℕ
  pub is_verbose : Bool
  pub format : Format

-- what the code hands on
abbrev pub context_of : {A : Type 0} → Context A → ContextValue
context_of x = record {
  called = called x.names.now;
  lookup = stands_for x.names.now;
  baseline = lists_of x.baseline.now;
  words = command_at (words x.line.now);
  branch = x.branch;
  is_verbose = x.is_verbose;
  format = x.format;
}

-- a line of a study, in a branch
abbrev pub context_in : Study → ℕ → List ℕ → ContextValue
context_in s branch line = record {
  called = s.called;
  lookup = s.lookup;
  baseline = s.baseline;
  words = command_at (words line);
  branch = branch;
  is_verbose = s.is_verbose;
  format = s.format;
}

-- what is known where the branch has this session
abbrev pub situation : ContextValue → Session → SituationValue
situation x s = record { database = state s; baseline = x.baseline; done = length s.done; undone = length s.undone }
