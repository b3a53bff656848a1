use Rattle.std.proofs.Common.{length, arith, ap, refl, rules, sym, ◌∙◌}
use Rattle.table_report.proofs.Ascii.{byte_before}
use Rattle.table_report.proofs.Bytes.{fits, byte_put}
use Rattle.table_report.proofs.piece.write_marked.Goals as goal

pub copy_from_slice-requires : goal.copy_from_slice-requires
copy_from_slice-requires c =
    fits c.args.byte (omega arith) c.args.end c.args.buffer.now (omega arith) (search rules) ∙ ap length (sym c.dotted.ensures)

pub returns-clause-written : goal.returns-clause-written
returns-clause-written c =
    byte_put c.args.byte (omega arith) c.args.end c.args.buffer.now (omega arith) (search rules)
    c.args.mark c.from.result c.from-2.result _ c.copy_from_slice.new.self c.from.ensures c.from-2.ensures
    (c.copy_from_slice.ensures.after ∙ c.dotted.ensures) refl

pub returns-clause-ascii : goal.returns-clause-ascii
returns-clause-ascii c =
    byte_before c.args.mark c.args.byte _ _ c.requires.ascii (omega arith)
    (byte_put c.args.byte (omega arith) c.args.end c.args.buffer.now (omega arith) (search rules)
    c.args.mark c.from.result c.from-2.result _ c.copy_from_slice.new.self c.from.ensures c.from-2.ensures
    (c.copy_from_slice.ensures.after ∙ c.dotted.ensures) refl)
