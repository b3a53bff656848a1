use Rattle.std.specs.String.{string_bytes}
use Rattle.table_report.specs.Texts.{area_text}
use Rattle.table_report.proofs.Joined.{ways_joined}
use Rattle.table_report.proofs.line.push_area_and_hops.Goals as goal

pub returns : goal.returns
returns g c =
    ways_joined c.push_more_hops.result (string_bytes c.args.text.now) _ _ (area_text c.args.areas.now)
    c.in-Some.first.now c.in-Some.more.now c.args.hops.now
    c.in_ok-push_area_and_hop.ensures c.push_more_hops.ensures c.in-Some.ensures.cases.0
