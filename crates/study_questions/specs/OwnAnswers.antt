-- The answers about the edits that are done, and about the language.
use Rattle.std.specs.Prelude.{ℕ, ◌++◌, length, Option, codes}
use Rattle.std.specs.List.{flat_map}
use Rattle.edit_history.specs.Session.{Session}
use Rattle.saved_sessions.specs.Lines.{lines_of}
use Rattle.study_words.specs.declared.study_word.StudyWord.{StudyWord}
use Rattle.study_words.specs.declared.see_word.SeeWord.TheVariants as words
use Rattle.study_hints.specs.Help.{help_lines, with_end}
use Rattle.study_answers.specs.Answers.{AnswerValue, accepted_answer}
use Rattle.study_questions.specs.Texts.{head_of, number_after, word_after}

-- the done edits, each spelled in its one way
unfoldable pub log_answer : ℕ → Session → AnswerValue
log_answer branch s = accepted_answer (head_of branch words.Log ++ number_after (length s.done) ++ codes "\n" ++ lines_of s.done)

-- the lines of words
unfoldable pub help_answer : ℕ → Option StudyWord → AnswerValue
help_answer branch word =
    accepted_answer (head_of branch words.Help ++ word_after word ++ number_after (length (help_lines word)) ++ codes "\n" ++ flat_map with_end (help_lines word))
