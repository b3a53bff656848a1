-- Studies.
use Rattle.std.specs.Prelude.{ℕ, Bool, List}
use Rattle.lsdb.specs.Lists.{Lists}
use Rattle.lsdb.specs.Slots.{Slots, lists_of}
use Rattle.edit_history.specs.Session.{state}
use Rattle.branches.specs.Branches.{Sessions, sessions_of}
use Rattle.network_names.specs.declared.names.Names.{Names}
use Rattle.network_names.specs.Names.{called, names_of, stands_for}
use Rattle.text_words.specs.Words.{Word}
use Rattle.study_arguments.specs.Values.{Lookup}
use Rattle.study_text.specs.Shown.{Called}
use Rattle.study_session.specs.declared.format.Format.{Format}
use Rattle.study_session.specs.declared.session.StudySession.{StudySession}

-- the sessions of the branches, the baseline, what names stand for, what routers are called, all names, and whether each edit
-- says what it changed; and the form of the answers
pub record Study : Type 0 where
  pub sessions : Sessions
  pub baseline : Lists
  pub lookup : Lookup
  pub called : Called
  pub known : List Word
  pub is_verbose : Bool
  pub format : Format

-- that of these sessions, compared with a database, where routers and addresses have these names
abbrev pub study_by : {A : Type 0} → Sessions → Slots → Names A → Bool → Format → Study
study_by sessions baseline names is_verbose format = record {
  sessions = sessions;
  baseline = lists_of baseline;
  lookup = stands_for names;
  called = called names;
  known = names_of names;
  is_verbose = is_verbose;
  format = format;
}

unfoldable pub study_of : {A : Type 0} → StudySession A → Study
study_of s = study_by (sessions_of s.branches) s.baseline s.names s.is_verbose s.format

-- the database of a branch
abbrev pub database_in : Study → ℕ → Lists
database_in s branch = state (s.sessions branch)
