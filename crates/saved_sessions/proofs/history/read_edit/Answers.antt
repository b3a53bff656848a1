use Rattle.std.proofs.Common.{◌+◌, ◌≤◌, length, rules}
use Rattle.saved_sessions.proofs.LinesTaken.{lies_within}
use Rattle.saved_sessions.proofs.history.read_edit.Goals as goal

pub overflow_add-result : goal.overflow_add-result
overflow_add-result g c =
    let h : c.args.offset + c.in-Ok-Some.byte_count ≤ length c.args.bytes.now =
    lies_within c.line_laws.ensures.spelled c.args.bytes.now c.args.offset c.in-Ok-Some.field-0 c.in-Ok-Some.edit c.in-Ok-Some.byte_count
    c.in-Ok-Some.ensures c.in-Ok-Some.field-0-is c.requires in
    search (rules, h)

pub returns-in-Ok-Some-clause-within : goal.returns-in-Ok-Some-clause-within
returns-in-Ok-Some-clause-within g c =
    lies_within c.line_laws.ensures.spelled c.args.bytes.now c.args.offset c.in-Ok-Some.field-0 c.in-Ok-Some.edit c.in-Ok-Some.byte_count
    c.in-Ok-Some.ensures c.in-Ok-Some.field-0-is c.requires
