use Rattle.std.proofs.Common.{None, get_or, arith}
use Rattle.std.proofs.lemmas.List.{get_or_default}
use Rattle.findings.specs.declared.reported_lsa.ReportedLsa.{ReportedLsa}
use Rattle.snmp_walk.proofs.Counted.{few, numbers_more}
use Rattle.snmp_walk.proofs.count.numbers_of.Goals as goal

pub put_row-requires : goal.put_row-requires
put_row-requires g c = few c.args.rows.now c.loop-row.row-index c.loop-row.numbers (omega arith) c.loop-row.invariant

pub loop-row-preserved : goal.loop-row-preserved
loop-row-preserved g c =
    let rows = c.args.rows.now in
    let i = c.loop-row.row-index in
    let none : ReportedLsa = record { area = None; key = record { kind = 0; id = record { 0 = 0 }; adv = record { 0 = 0 } } } in
    let row : ReportedLsa = get_or rows i none in
    numbers_more rows i row c.loop-row.numbers c.put_row.new.numbers c.loop-row-test.true (get_or_default rows i none row c.loop-row-test.true)
    c.loop-row.invariant c.in_ok-put_row.ensures
