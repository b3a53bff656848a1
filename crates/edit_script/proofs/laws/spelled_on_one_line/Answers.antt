use Rattle.edit_script.proofs.OneLine.{one_line}
use Rattle.edit_script.proofs.laws.spelled_on_one_line.Goals as goal

pub returns : goal.returns
returns c = one_line
