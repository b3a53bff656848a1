-- Replies that list lines.
use Rattle.std.specs.Prelude.{ℕ, List, ◌++◌, length, codes}
use Rattle.study_words.specs.declared.see_word.SeeWord.{SeeWord}
use Rattle.study_text.specs.Lists.{lines_of}
use Rattle.study_answers.specs.Answers.{AnswerValue, accepted_answer}
use Rattle.study_questions.specs.Texts.{head_of, number_after}

-- the number of some things, which ends the first line, and a line for each
unfoldable pub counted : {X : Type 0} → (X → List ℕ) → List X → List ℕ
counted text xs = number_after (length xs) ++ codes "\n" ++ lines_of text xs

-- the answer with a line for each of some things, where the question has no other word
unfoldable pub listed : {X : Type 0} → ℕ → SeeWord → (X → List ℕ) → List X → AnswerValue
listed branch word text xs = accepted_answer (head_of branch word ++ counted text xs)
