-- A line of these words is read again, in its branch.
use Rattle.std.proofs.Common.{◌≡◌, ℕ, ◌<◌, Bool, false, eqb, List, ◌∷◌, ◌++◌, get_or, Some, Ok, Err, refl, ap, ◌∙◌, sym, arith, inl, inr}
use Rattle.std.specs.Prelude.{codes}
use Rattle.std.proofs.lemmas.Bool.{cond-false}
use Rattle.edit_script.specs.declared.fault.ScriptFault.TheVariants.{Empty, UnknownWord}
use Rattle.edit_script.specs.Words.{Word, words}
use Rattle.edit_script.specs.Line.{after_branch as plan_after_branch, in_branch as plan_in_branch, meaning_of_words}
use Rattle.edit_script.specs.Reading.{command_of}
use Rattle.edit_script.specs.Spelling.{branch_word}
use Rattle.text_words.proofs.NumberLemmas.{number_again}
use Rattle.study_words.specs.ConditionWords.{condition_text}
use Rattle.study_words.specs.SeeWords.{see_text}
use Rattle.study_arguments.specs.Values.{Lookup}
use Rattle.study_script.specs.declared.question.Question.{Question}
use Rattle.study_script.specs.Expected.{Expected}
use Rattle.study_script.specs.Line.{Asked, after_branch, asked_of, expect, in_branch, meaning, plan_or_study, see, study_meaning}
use Rattle.study_script.specs.Spelling.{IsExpectedInRange, IsQuestionInRange, Spells, condition_rest, condition_word, expectation_words, not_words, question_rest, question_words, word_of}
use Rattle.study_script.proofs.ConditionsAgain.{expectation_again}
use Rattle.study_script.proofs.NewWords.{expect_unknown, question_unknown}
use Rattle.study_script.proofs.QuestionsAgain.{is_plain, question_again}
use Rattle.study_script.proofs.SameMeaning.{by_words}

-- a command word that `ospf-plan` does not know, and the words after it
module _ (names : Lookup) (first : Word) (rest : List Word) (what : Asked) (unknown : command_of first rest ≡ Err UnknownWord)
    (no_comment : eqb (get_or first 0 0) 35 ≡ false) (no_branch : eqb (get_or first 0 0) 64 ≡ false) (read : asked_of names (first, rest) ≡ Ok what) where
  plan_bare : meaning_of_words (first ∷ rest) ≡ Err UnknownWord
  unfolding meaning_of_words
  plan_bare = cond-false _ (Err Empty) _ no_comment ∙ cond-false _ _ _ no_branch ∙ ap (plan_in_branch 0) unknown

  study_bare : study_meaning names (first ∷ rest) ≡ Ok (Some (0, what))
  unfolding study_meaning
  study_bare = cond-false _ _ _ no_comment ∙ cond-false _ _ _ no_branch ∙ ap (in_branch 0) read

  plan_branch : (branch : ℕ) → branch < 8 → meaning_of_words (branch_word branch ∷ first ∷ rest) ≡ Err UnknownWord
  unfolding meaning_of_words plan_after_branch
  plan_branch branch small = simp (number_again 7 branch (omega arith) (omega arith), unknown)

  study_branch : (branch : ℕ) → branch < 8 → study_meaning names (branch_word branch ∷ first ∷ rest) ≡ Ok (Some (branch, what))
  unfolding study_meaning after_branch
  study_branch branch small = simp (number_again 7 branch (omega arith) (omega arith), read)

  pub line_again : (line : List ℕ) (branch : ℕ) → Spells (words line) branch (first ∷ rest) → meaning names line ≡ Ok (Some (branch, what))
  line_again line branch spelled =
      elim spelled.1 [
        | inl named ↦
            by_words names line (branch_word branch ∷ first ∷ rest) named
            ∙ ap (plan_or_study names (branch_word branch ∷ first ∷ rest)) (plan_branch branch spelled.0)
            ∙ study_branch branch spelled.0
        | inr bare ↦
            by_words names line (first ∷ rest) bare.1
            ∙ ap (plan_or_study names (first ∷ rest)) plan_bare
            ∙ study_bare
            ∙ ap (λ (n : ℕ). Ok (Some (n, what))) (sym bare.0)
      ]

pub question_read_back : (names : Lookup) (line : List ℕ) (branch : ℕ) (q : Question) → IsQuestionInRange q
    → Spells (words line) branch (question_words q) → meaning names line ≡ Ok (Some (branch, see q))
question_read_back names line branch q h spelled =
    line_again names (see_text (word_of q)) (question_rest q) (see q) (question_unknown (word_of q) (question_rest q))
    (is_plain (word_of q)).0 (is_plain (word_of q)).1 (question_again names q h) line branch spelled

pub expectation_read_back : (names : Lookup) (line : List ℕ) (branch : ℕ) (is_not : Bool) (what : Expected) → IsExpectedInRange what
    → Spells (words line) branch (expectation_words is_not what) → meaning names line ≡ Ok (Some (branch, expect is_not what))
expectation_read_back names line branch is_not what h spelled =
    let rest = not_words is_not ++ (condition_text (condition_word what) ∷ condition_rest what) in
    line_again names (codes "expect") rest (expect is_not what) (expect_unknown rest) refl refl (expectation_again names is_not what h) line branch spelled
