use Rattle.std.proofs.Common.{rules}
use Rattle.std.proofs.lemmas.List.{drop_all}
use Rattle.table_report.proofs.Ascii.{none_is_ascii}
use Rattle.table_report.proofs.piece.end_of.Goals as goal

pub returns-clause-nothing : goal.returns-clause-nothing
returns-clause-nothing c = drop_all 128 c.args.buffer.now (search rules)

pub returns-clause-ascii : goal.returns-clause-ascii
returns-clause-ascii c = none_is_ascii c.args.buffer.now 128 (search rules)
