-- The study at the beginning of a run.
use Rattle.std.specs.Prelude.{◌≡◌, ℕ, List, [], Option, None, Some, Ok, IsOk, IfSome, unwrap_or}
use Rattle.lsdb.specs.Lists.{Lists}
use Rattle.edit_history.specs.Session.{Session, state}
use Rattle.saved_sessions.specs.Opening.{opened}
use Rattle.branches.specs.Branches.{resumed}
use Rattle.network_names.specs.File.{names_in}
use Rattle.network_names.specs.Names.{Named, address_in, name_in}
use Rattle.study_session.specs.Studies.{Study}
use Rattle.whole_run.specs.Inputs.{IsAccepted}
use Rattle.whole_study.specs.Given.{Given}
use Rattle.whole_study.specs.declared.running.Manner.{Manner}

-- the bytes of the names file; none is as an empty one
abbrev pub names_of : Given → List ℕ
names_of given = unwrap_or given.names []

-- the baseline of a session: without one the database that the session began at, else the database of the dump or of the
-- session that is given, with its done edits
abbrev pub IsBaseline : Session → Option (List ℕ) → Lists → Type 0
IsBaseline s None baseline = baseline ≡ s.base
IsBaseline s (Some bytes) baseline = (other : Session) × ((opened bytes ≡ Ok other) × (baseline ≡ state other))

-- branch 0 goes on with the session of the dump and the others begin at its base; names stand for what the names file says,
-- edits say what they changed where that is wanted, and answers have the form that is wanted
pub record Begins (how : Manner) (given : Given) (s : Study) : Type 0 where
  pub session : Session
  pub dump : opened given.dump ≡ Ok session
  pub sessions : s.sessions ≡ resumed session
  pub baseline : IsBaseline session given.baseline s.baseline
  pub named : List Named
  pub names : names_in (names_of given) ≡ Ok named
  pub lookup : (word : List ℕ) → s.lookup word ≡ address_in named word
  pub called : (router : ℕ) → s.called router ≡ name_in named router
  pub verbose : s.is_verbose ≡ how.is_verbose
  pub format : s.format ≡ how.format

-- dump, baseline and names are accepted
pub record AreAccepted (given : Given) : Type 0 where
  pub dump : IsAccepted given.dump
  pub baseline : IfSome given.baseline IsAccepted
  pub names : IsOk (names_in (names_of given))
