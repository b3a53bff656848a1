use Rattle.std.specs.String.{string_bytes}
use Rattle.table_report.proofs.Joined.{line_pushed}
use Rattle.table_report.proofs.line.push_line_with.Goals as goal

pub returns : goal.returns
returns g c =
    line_pushed c.push_str.result c.args.route.now (string_bytes c.args.text.now) _ _ c.args.ways.now
    c.in_ok-push_front.ensures c.requires c.push_str.ensures.bytes
