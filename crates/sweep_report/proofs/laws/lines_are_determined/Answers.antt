use Rattle.sweep_report.proofs.Determined.{same_lines}
use Rattle.sweep_report.proofs.laws.lines_are_determined.Goals as goal

pub returns : goal.returns
returns c = same_lines
