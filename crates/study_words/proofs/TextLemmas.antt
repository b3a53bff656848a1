-- Each word is found by its text.
use Rattle.std.proofs.Common.{◌≡◌, Some, refl}
use Rattle.study_words.specs.declared.plan_word.PlanWord.TheVariants as plan_word
use Rattle.study_words.specs.declared.see_word.SeeWord.TheVariants as see_word
use Rattle.study_words.specs.declared.event_word.EventWord.TheVariants as event_word
use Rattle.study_words.specs.declared.condition_word.ConditionWord.TheVariants as condition_word
use Rattle.study_words.specs.declared.route_kind.RouteKind.TheVariants as route_kind
use Rattle.study_words.specs.declared.audit_kind.AuditKind.TheVariants as audit_kind
use Rattle.study_words.specs.declared.failure_kind.FailureKind.TheVariants as failure_kind
use Rattle.study_words.specs.declared.comparison.Comparison.TheVariants as comparison
use Rattle.study_words.specs.declared.study_word.StudyWord.{StudyWord}
use Rattle.study_words.specs.declared.study_word.StudyWord.TheVariants as study_word
use Rattle.study_words.specs.Named.{named}
use Rattle.study_words.specs.Written.{Word, plan, see, event, condition, route, audit, failure, compare, written}
use Rattle.study_words.specs.StudyWords.{study_text, study_word_of}
use Rattle.study_words.specs.PlanWords.{plan_text, plan_word_of}
use Rattle.study_words.specs.SeeWords.{see_text, see_word_of}
use Rattle.study_words.specs.EventWords.{event_text, event_word_of}
use Rattle.study_words.specs.ConditionWords.{condition_text, condition_word_of}
use Rattle.study_words.specs.RouteKinds.{route_kind_text, route_kind_of}
use Rattle.study_words.specs.AuditKinds.{audit_kind_text, audit_kind_of}
use Rattle.study_words.specs.FailureKinds.{failure_kind_text, failure_kind_of}
use Rattle.study_words.specs.Comparisons.{comparison_text, comparison_of}

-- the word is the one that its text names
abbrev pub IsFound : Word → Type 0
IsFound (plan w) = plan_word_of (plan_text w) ≡ Some w
IsFound (see w) = see_word_of (see_text w) ≡ Some w
IsFound (event w) = event_word_of (event_text w) ≡ Some w
IsFound (condition w) = condition_word_of (condition_text w) ≡ Some w
IsFound (route kind) = route_kind_of (route_kind_text kind) ≡ Some kind
IsFound (audit kind) = audit_kind_of (audit_kind_text kind) ≡ Some kind
IsFound (failure kind) = failure_kind_of (failure_kind_text kind) ≡ Some kind
IsFound (compare comparison) = comparison_of (comparison_text comparison) ≡ Some comparison

-- of each kind, the first clause is for one word, so that the second is tried at each of the others
pub word_found : (w : Word) → IsFound w
unfolding written named
word_found (plan plan_word.Cost) = refl
word_found (plan w) = refl
word_found (see see_word.Routers) = refl
word_found (see w) = refl
word_found (event event_word.Cut) = refl
word_found (event w) = refl
word_found (condition condition_word.Route) = refl
word_found (condition w) = refl
word_found (route route_kind.Intra) = refl
word_found (route kind) = refl
word_found (audit audit_kind.Nssa) = refl
word_found (audit kind) = refl
word_found (failure failure_kind.Links) = refl
word_found (failure failure_kind.Networks) = refl
word_found (failure failure_kind.Routers) = refl
word_found (failure failure_kind.All) = refl
word_found (compare comparison.Equal) = refl
word_found (compare comparison) = refl

pub study_word_found : (w : StudyWord) → study_word_of (study_text w) ≡ Some w
unfolding study_word_of written named
study_word_found (study_word.Plan plan_word.Cost) = refl
study_word_found (study_word.Plan w) = refl
study_word_found (study_word.See see_word.Routers) = refl
study_word_found (study_word.See w) = refl
study_word_found (study_word.Event event_word.Cut) = refl
study_word_found (study_word.Event w) = refl
study_word_found study_word.Expect = refl
