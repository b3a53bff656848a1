use Rattle.area_routes.proofs.AddsLemmas.{flat_map_adds}
use Rattle.link_report.specs.Links.{link_values}
use Rattle.link_report.proofs.PushedLemmas.{pushed_all, pushed_more, pushed_none}
use Rattle.link_report.proofs.link_line.push_links_in_areas.Goals as goal

pub loop-area-init : goal.loop-area-init
loop-area-init g c = pushed_none (flat_map_adds (link_values c.args.router)) c.args.lines.now.items c.args.areas.now

pub loop-area-preserved : goal.loop-area-preserved
loop-area-preserved g c =
    pushed_more (flat_map_adds (link_values c.args.router)) c.args.lines.now.items c.args.areas.now c.loop-area.area-index c.area-item.result _ _
    c.loop-area-test.true c.area-item.is c.loop-area.invariant c.in_ok-push_links.ensures

pub returns : goal.returns
returns g c =
    pushed_all (flat_map_adds (link_values c.args.router)) c.args.lines.now.items c.args.areas.now c.loop-area.area-index c.loop-area.lines.items
    c.loop-area-test.false c.loop-area.invariant
