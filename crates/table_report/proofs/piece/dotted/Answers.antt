use Rattle.std.proofs.Common.{arith, refl, rules}
use Rattle.table_report.specs.declared.piece.TheConstants.{BYTES}
use Rattle.table_report.proofs.Bytes.{agree_below, first, part_is, second}
use Rattle.table_report.proofs.piece.dotted.Goals as goal

pub returns : goal.returns
unfolding agree_below first second
returns c = part_is BYTES c.args.byte c.from-place.result (search rules) (omega arith) refl
