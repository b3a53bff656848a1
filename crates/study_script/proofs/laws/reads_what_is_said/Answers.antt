use Rattle.study_script.proofs.LinesAgain.{question_read_back, expectation_read_back}
use Rattle.study_script.proofs.laws.reads_what_is_said.Goals as goal

pub returns : goal.returns
returns c = record { question = question_read_back; expectation = expectation_read_back }
