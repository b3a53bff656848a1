-- The command words of studies.
use Rattle.std.specs.Prelude.{ℕ, List, Option, Some, None, codes, bytes_eq, if◌then◌else◌}
use Rattle.study_words.specs.declared.study_word.StudyWord.{StudyWord}
use Rattle.study_words.specs.declared.study_word.StudyWord.TheVariants as of
use Rattle.study_words.specs.declared.plan_word.PlanWord.{PlanWord}
use Rattle.study_words.specs.declared.see_word.SeeWord.{SeeWord}
use Rattle.study_words.specs.declared.event_word.EventWord.{EventWord}
use Rattle.study_words.specs.EventWords.{event_text, event_word_of}
use Rattle.study_words.specs.PlanWords.{plan_text, plan_word_of}
use Rattle.study_words.specs.SeeWords.{see_text, see_word_of}

-- as it is written
abbrev pub study_text : StudyWord → List ℕ
study_text (of.Plan word) = plan_text word
study_text (of.See word) = see_text word
study_text (of.Event word) = event_text word
study_text of.Expect = codes "expect"

abbrev pub or_expect : List ℕ → Option EventWord → Option StudyWord
or_expect word (Some event) = Some (of.Event event)
or_expect word None = if bytes_eq word (codes "expect") then Some of.Expect else None

abbrev pub or_event : List ℕ → Option SeeWord → Option StudyWord
or_event word (Some see) = Some (of.See see)
or_event word None = or_expect word (event_word_of word)

abbrev pub or_see : List ℕ → Option PlanWord → Option StudyWord
or_see word (Some plan) = Some (of.Plan plan)
or_see word None = or_event word (see_word_of word)

-- the one that a word is, if it is one
unfoldable pub study_word_of : List ℕ → Option StudyWord
study_word_of word = or_see word (plan_word_of word)
