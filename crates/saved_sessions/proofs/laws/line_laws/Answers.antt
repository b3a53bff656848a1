use Rattle.edit_script.specs.declared.command.Command.TheVariants as command
use Rattle.saved_sessions.proofs.LineParts.{edit_line_is, edit_line_again}
use Rattle.saved_sessions.proofs.ShortLines.{short_line}
use Rattle.saved_sessions.proofs.laws.line_laws.Goals as goal

pub returns-clause-again : goal.returns-clause-again
returns-clause-again c = edit_line_again c.reads_back.ensures c.spelled_on_one_line.ensures

pub returns-clause-spelled : goal.returns-clause-spelled
returns-clause-spelled c = edit_line_is (λ line branch edit means. ((c.reads_what_is_said.ensures line branch (command.Edit edit)).0 means).0)

pub returns-clause-short : goal.returns-clause-short
returns-clause-short c = short_line
