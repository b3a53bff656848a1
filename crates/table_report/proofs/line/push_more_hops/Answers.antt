use Rattle.std.specs.String.{string_bytes}
use Rattle.table_report.proofs.Joined.{all_more}
use Rattle.table_report.proofs.line.push_more_hops.Goals as goal

pub returns : goal.returns
returns g c =
    all_more (string_bytes c.args.text.now) c.args.hops.now c.loop-hop.hop-index (string_bytes c.loop-hop.text)
    c.loop-hop-test.false c.loop-hop.invariant
