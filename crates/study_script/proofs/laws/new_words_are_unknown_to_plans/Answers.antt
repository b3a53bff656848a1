use Rattle.study_script.proofs.NewWords.{question_unknown, event_unknown, expect_unknown}
use Rattle.study_script.proofs.laws.new_words_are_unknown_to_plans.Goals as goal

pub returns : goal.returns
returns c = record { question = question_unknown; event = event_unknown; expect = expect_unknown }
