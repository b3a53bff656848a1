use Rattle.study_script.proofs.SameMeaning.{taken, empty, comment}
use Rattle.study_script.proofs.laws.plan_lines_mean_the_same.Goals as goal

pub returns : goal.returns
returns c = record { taken = taken; empty = empty; comment = comment }
