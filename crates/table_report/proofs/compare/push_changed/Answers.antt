use Rattle.std.proofs.Common.{◌++◌, ◌∙◌, ap, arith}
use Rattle.std.specs.String.{string_bytes}
use Rattle.table_report.proofs.Added.{changed_line}
use Rattle.table_report.proofs.compare.push_changed.Goals as goal

pub returns : goal.returns
returns g c =
    changed_line c.args.before.now c.args.now.now _ _ c.in_ok-write_line.ensures c.in_ok-write_line-2.ensures c.eq.result
    _ _ _ _ _ _ c.eq.ensures c.if-eq.false c.in_ok-push_str.ensures.bytes
    (c.in_ok-push_str-2.ensures.bytes ∙ ap (λ l. string_bytes c.push_str.new.self ++ l) c.deref.ensures) c.in_ok-push_str-3.ensures.bytes c.in_ok-push_rest.ensures
    (c.in_ok-push.ensures.bytes ∙ ap (λ l. string_bytes c.push_rest.new.text ++ l) (c.in_ok-push.ensures.ascii (omega arith)))
