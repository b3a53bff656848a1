use Rattle.std.specs.List.{filter_map}
use Rattle.std.proofs.lemmas.Result.{IfOk-weaker}
use Rattle.snmp_walk.specs.Missing.{column_row, bytes_row}
use Rattle.snmp_walk.proofs.Rows.{left_over}
use Rattle.snmp_walk.proofs.missing.rows_missing.Goals as goal

pub returns : goal.returns
returns g c =
    let parsed = c.args.parsed.now in
    IfOk-weaker c.without.result _ _
    (λ rows h. left_over (filter_map column_row parsed) (filter_map bytes_row parsed) c.in_ok-columns.columns c.in_ok-bytes.bytes rows.items
    c.in_ok-columns.ensures c.in_ok-bytes.ensures h)
    c.without.ensures
