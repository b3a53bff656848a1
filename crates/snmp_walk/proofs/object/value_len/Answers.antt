use Rattle.std.proofs.Common.{sym, ap, ◌∙◌, arith}
use Rattle.snmp_walk.specs.Objects.{ends_value}
use Rattle.snmp_walk.proofs.Values.{rest_at, value_ends, value_next}
use Rattle.snmp_walk.proofs.object.value_len.Goals as goal

pub returns-then-ends_value-clause-value : goal.returns-then-ends_value-clause-value
returns-then-ends_value-clause-value c =
    let same = ap ends_value (sym (rest_at c.args.text.now c.loop-len.len)) in
    value_ends c.args.text.now c.loop-len.len (same ∙ sym c.ends_value.ensures ∙ c.if-ends_value.true) c.loop-len.invariant

pub loop-len-preserved : goal.loop-len-preserved
loop-len-preserved c =
    let same = ap ends_value (sym (rest_at c.args.text.now c.loop-len.len)) in
    value_next c.args.text.now c.loop-len.len (omega arith) (same ∙ sym c.ends_value.ensures ∙ c.if-ends_value.false) c.loop-len.invariant
