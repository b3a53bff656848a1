-- The command words of `ospf-plan`.
use Rattle.std.specs.Prelude.{ℕ, List, [], ◌∷◌, Option}
use Rattle.study_words.specs.declared.plan_word.PlanWord.{PlanWord}
use Rattle.study_words.specs.declared.plan_word.PlanWord.TheVariants as of
use Rattle.study_words.specs.Named.{named}
use Rattle.study_words.specs.Written.{plan, written}

-- as it is written
abbrev pub plan_text : PlanWord → List ℕ
plan_text w = written (plan w)

abbrev pub plan_words : List PlanWord
plan_words =
    of.Cost ∷ of.DropLink ∷ of.FailLink ∷ of.FailNet ∷ of.FailRouter ∷ of.AddStub ∷ of.Summary ∷ of.AddSummary
    ∷ of.AddExternal ∷ of.DropExternal ∷ of.Refresh ∷ of.Undo ∷ of.Redo ∷ of.Table ∷ of.Tables ∷ of.Compare ∷ of.Info ∷ []

-- the one that a word is, if it is one
abbrev pub plan_word_of : List ℕ → Option PlanWord
plan_word_of word = named plan_text plan_words word
