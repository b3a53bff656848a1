use Rattle.std.specs.List.{filter_map}
use Rattle.std.proofs.lemmas.Result.{IfOk-weaker}
use Rattle.snmp_walk.specs.Counts.{row_of}
use Rattle.snmp_walk.proofs.Rows.{rows_once}
use Rattle.snmp_walk.proofs.count.rows_of.Goals as goal

pub returns : goal.returns
returns g c =
    IfOk-weaker c.in_order.result _ _
    (λ once h. rows_once (filter_map row_of c.args.parsed.now) c.in_ok-rows.rows once.items c.in_ok-rows.ensures h)
    c.in_order.ensures
