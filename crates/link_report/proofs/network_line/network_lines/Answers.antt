use Rattle.std.proofs.Common.{◌∙◌, List, ap}
use Rattle.std.specs.List.{flat_map}
use Rattle.area_routes.proofs.AddsLemmas.{flat_map_adds}
use Rattle.link_report.specs.Areas.{UsedAreaValue}
use Rattle.link_report.specs.Networks.{networks_in}
use Rattle.link_report.proofs.PushedLemmas.{made_all, made_more}
use Rattle.link_report.proofs.network_line.network_lines.Goals as goal

pub loop-area-preserved : goal.loop-area-preserved
loop-area-preserved g c =
    made_more (flat_map_adds networks_in) c.deref-area-items.result.now c.loop-area.area-index c.area-item.result c.loop-area.lines.items _
    c.loop-area-test.true c.area-item.is c.loop-area.invariant c.in_ok-push_networks.ensures

pub returns : goal.returns
returns g c =
    made_all (flat_map_adds networks_in) c.deref-area-items.result.now c.loop-area.area-index c.loop-area.lines.items c.loop-area-test.false
    c.loop-area.invariant
    ∙ ap (λ (areas : List UsedAreaValue). flat_map networks_in areas) (c.deref-area-items.ensures.value ∙ c.in_ok-areas.ensures)
