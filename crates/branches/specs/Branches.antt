-- The branches of a run: studies that begin at the loaded database, each with a session of its own.
use Rattle.std.specs.Prelude.{◌≡◌, ℕ, ◌==◌, ◌||◌, Bool, is_some, if◌then◌else◌, IfSome, nat_le, List, length, map, Option, None, Some, Result, IfOk, OnOk, OnErr}
use Rattle.std.specs.Map.{lookup}
use Rattle.std.specs.Ordering.{nat_cmp, eq_by_cmp}
use Rattle.lsdb.specs.Lists.{Lists}
use Rattle.edit_script.specs.declared.command.Command.{Command}
use Rattle.edit_history.specs.Session.{Session, moved_back, start, state}
use Rattle.recalculate.specs.Planning.{PlannerValue}
use Rattle.branches.specs.declared.reply.Reply.{Reply}
use Rattle.branches.specs.Replies.{after, reply_to, said_by}

-- the session of each branch, by the branch's number
abbrev pub Sessions : Type 0
Sessions = ℕ → Session

-- every branch begins at the loaded database
abbrev pub all_begin : Lists → Sessions
all_begin base = λ branch. start base

-- branch 0 is at a session, and the others begin where it did
abbrev pub resumed : Session → Sessions
resumed s = λ branch. if branch == 0 then s else start s.base

-- one branch goes on, and the others stay
abbrev pub with_session : ℕ → Session → Sessions → Sessions
with_session branch s all = λ other. if branch == other then s else all other

-- a command is carried out in one branch
abbrev pub stepped : ℕ → Command → Sessions → Sessions
stepped branch command all = with_session branch (after (all branch) command) all

-- the database before the last edits, if this number of edits are done
abbrev pub before_last : ℕ → Session → Option Lists
before_last count s = if nat_le count (length s.done) then Some (state (moved_back count s)) else None

-- ---- the sessions of the branches that have a planner: branch 0, and others by their numbers

pub record Named : Type 0 where
  pub first : Session
  pub others : List (ℕ × Session)

-- the sessions of planners
abbrev pub sessions_by : List (ℕ × PlannerValue) → List (ℕ × Session)
sessions_by planners = map (λ p. (p.0, p.1.session)) planners

abbrev pub named_by : PlannerValue → List (ℕ × PlannerValue) → Named
named_by first others = record { first = first.session; others = sessions_by others }

-- a branch without a planner is at its beginning
abbrev pub session_or_begin : Lists → Option Session → Session
session_or_begin base None = start base
session_or_begin base (Some s) = s

abbrev pub sessions_of : Named → Sessions
sessions_of named = λ branch. if branch == 0 then named.first else session_or_begin named.first.base (lookup (eq_by_cmp nat_cmp branch) named.others)

-- whether a branch has a planner
abbrev pub has_planner : Named → ℕ → Bool
has_planner named branch = (branch == 0) || is_some (lookup (eq_by_cmp nat_cmp branch) named.others)

-- all began at one database
abbrev pub HaveOneBase : Named → Type 0
HaveOneBase named = (branch : ℕ) → IfSome (lookup (eq_by_cmp nat_cmp branch) named.others) (λ s. s.base ≡ named.first.base)

-- ---- one command

-- a call carries a command out in a branch, and answers its reply; where memory runs out, no branch has changed
pub record Steps {A F : Type 0} (branch : ℕ) (command : Command) (result : Result (Reply A) F) (old new : Named) : Type 0 where
  pub reply : IfOk result (λ reply. said_by reply ≡ reply_to (sessions_of old branch) command)
  pub sessions : OnOk result (sessions_of new ≡ stepped branch command (sessions_of old))
  pub kept : OnErr result (new ≡ old)
