-- What is found of a condition, and the answer by it.
use Rattle.std.specs.Prelude.{◌≡◌, ℕ, ◌==◌, Bool, true, false, List, ◌++◌, length, Option, None, Some, codes, decimal}
use Rattle.std.specs.List.{list_all}
use Rattle.std.specs.Option.{option_map_or}
use Rattle.lsa_codec.specs.declared.address.RouterId.{RouterId}
use Rattle.lsdb.specs.Lists.{Lists}
use Rattle.study_script.specs.declared.condition.Passing.{Passing}
use Rattle.study_script.specs.declared.condition.Passing.TheVariants as passing
use Rattle.study_text.specs.Lists.{first_three}
use Rattle.study_answers.specs.Answers.{AnswerValue, failed_answer, held_answer, refused_answer}
use Rattle.study_answers.specs.Known.{is_known, no_router}

-- what is found of a condition: whether it holds, and the text of what was found; or why nothing can be said, by a code and a name
pub data VerdictValue : Type 0 where
  unknown : List ℕ × List ℕ → VerdictValue
  found : Bool → List ℕ → VerdictValue

-- the condition has to hold, or must not
abbrev pub by_holding : ℕ → List ℕ → Bool → Bool → AnswerValue
by_holding branch text true true = failed_answer branch text
by_holding branch text true false = held_answer branch
by_holding branch text false true = held_answer branch
by_holding branch text false false = failed_answer branch text

unfoldable pub verdict_answer : ℕ → Bool → VerdictValue → AnswerValue
verdict_answer branch is_not (unknown texts) = refused_answer branch texts
verdict_answer branch is_not (found holds text) = by_holding branch text is_not holds

-- attached in one of two databases, if some are given
unfoldable pub are_known : Lists → Lists → Option (List RouterId) → Bool
are_known baseline db routers = option_map_or (λ those. list_all (is_known baseline db) those) routers true

-- the router that walks have to pass, or must not
unfoldable pub is_known_passing : Lists → Lists → Passing → Bool
is_known_passing baseline db (passing.Via router) = is_known baseline db router
is_known_passing baseline db (passing.Avoids router) = is_known baseline db router
is_known_passing baseline db passing.Delivered = true

abbrev pub unless_no_router : Bool → VerdictValue → VerdictValue
unless_no_router true verdict = verdict
unless_no_router false verdict = unknown no_router

abbrev pub IfRouter : Bool → VerdictValue → Type 0 → Type 0
IfRouter true verdict P = P
IfRouter false verdict P = verdict ≡ unknown no_router

abbrev pub is_none : {X : Type 0} → List X → Bool
is_none xs = length xs == 0

abbrev pub is_none_of : {X : Type 0} → Option X → Bool
is_none_of None = true
is_none_of (Some x) = false

-- after a word, the number of things, and the first of them
abbrev pub counted_text : List ℕ → List (List ℕ) → List ℕ
counted_text word texts = word ++ codes " " ++ decimal (length texts) ++ first_three texts
