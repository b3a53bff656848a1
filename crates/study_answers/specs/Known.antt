-- Routers that a line names, and what is answered where they are not there.
use Rattle.std.specs.Prelude.{◌≡◌, ℕ, ◌==◌, ◌||◌, Bool, true, false, List, Option, codes, unwrap_or}
use Rattle.std.specs.List.{list_any}
use Rattle.lsa_codec.specs.declared.address.RouterId.{RouterId}
use Rattle.lsdb.specs.Lists.{Lists}
use Rattle.routing_table.specs.Routers.{attached_routers}
use Rattle.study_answers.specs.Answers.{AnswerValue, refused_answer}

-- one of some routers
abbrev pub is_among : List RouterId → RouterId → Bool
is_among routers router = list_any (λ other. other.0 == router.0) routers

unfoldable pub is_attached : Lists → RouterId → Bool
is_attached db router = is_among (attached_routers db) router

-- attached in one of two databases
abbrev pub is_known : Lists → Lists → RouterId → Bool
is_known baseline db router = is_attached db router || is_attached baseline router

abbrev pub no_router : List ℕ × List ℕ
no_router = (codes "N1", codes "NoRouter")

-- a router that is not attached is refused
abbrev pub unless_unknown : ℕ → Bool → AnswerValue → AnswerValue
unless_unknown branch true answer = answer
unless_unknown branch false answer = refused_answer branch no_router

-- the same of an answer that has a property
abbrev pub IfKnown : ℕ → Bool → AnswerValue → Type 0 → Type 0
IfKnown branch true answer P = P
IfKnown branch false answer P = answer ≡ refused_answer branch no_router

-- fewer edits are done
abbrev pub too_few_done : List ℕ × List ℕ
too_few_done = (codes "U1", codes "NothingToUndo")

-- the number of edits that a line names; 1 where it names none
abbrev pub count_or_one : Option ℕ → ℕ
count_or_one count = unwrap_or count 1
