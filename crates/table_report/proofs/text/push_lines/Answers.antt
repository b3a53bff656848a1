use Rattle.std.specs.String.{string_bytes}
use Rattle.table_report.specs.Texts.{line_of}
use Rattle.table_report.proofs.Joined.{line_more, all_lines}
use Rattle.table_report.proofs.text.push_lines.Goals as goal

pub loop-route-preserved : goal.loop-route-preserved
loop-route-preserved g c = record {
  lines = line_more line_of _ c.args.routes.now c.loop-route.route-index c.route-item.result _ _ c.loop-route-test.true c.route-item.is
      c.loop-route.invariant.lines c.in_ok-push_line_with.ensures;
  ways = c.in_ok-write_ways.ensures;
}

pub returns : goal.returns
returns g c =
    all_lines line_of _ c.args.routes.now c.loop-route.route-index (string_bytes c.loop-route.text) c.loop-route-test.false c.loop-route.invariant.lines
