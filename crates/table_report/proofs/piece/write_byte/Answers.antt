use Rattle.table_report.proofs.Ascii.{after_ascii}
use Rattle.table_report.proofs.Bytes.{after_first}
use Rattle.table_report.proofs.piece.write_byte.Goals as goal

pub returns-clause-written : goal.returns-clause-written
returns-clause-written c = after_first c.write_marked.result _ _ c.write_marked.new.buffer c.write_marked.ensures.written

pub returns-clause-ascii : goal.returns-clause-ascii
returns-clause-ascii c = λ ascii. after_ascii c.write_marked.result c.write_marked.new.buffer (c.write_marked.ensures.ascii ascii)
