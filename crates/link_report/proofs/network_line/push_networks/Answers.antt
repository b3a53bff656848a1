use Rattle.std.proofs.Common.{◌++◌, ◌∙◌, List, ap}
use Rattle.std.specs.List.{filter_map, flat_map}
use Rattle.area_graph.specs.Rising.{rising}
use Rattle.area_routes.proofs.AddsLemmas.{flat_map_adds}
use Rattle.link_report.specs.declared.network_line.NetworkPlace.{NetworkPlace}
use Rattle.link_report.specs.Networks.{network_cmp, network_in, network_place}
use Rattle.link_report.proofs.PushedLemmas.{pushed_all, pushed_more, pushed_none}
use Rattle.link_report.proofs.network_line.push_networks.Goals as goal

pub loop-place-init : goal.loop-place-init
loop-place-init g c = pushed_none (flat_map_adds (network_in c.args.area.now)) c.args.lines.now.items c.deref-place-items.result.now

pub loop-place-preserved : goal.loop-place-preserved
loop-place-preserved g c =
    pushed_more (flat_map_adds (network_in c.args.area.now)) c.args.lines.now.items c.deref-place-items.result.now
    c.loop-place.place-index c.place-item.result _ _ c.loop-place-test.true c.place-item.is c.loop-place.invariant c.in_ok-push_network.ensures

pub returns : goal.returns
returns g c =
    pushed_all (flat_map_adds (network_in c.args.area.now)) c.args.lines.now.items c.deref-place-items.result.now
    c.loop-place.place-index c.loop-place.lines.items c.loop-place-test.false c.loop-place.invariant
    ∙ ap (λ (places : List NetworkPlace). c.args.lines.now.items ++ flat_map (network_in c.args.area.now) places)
    (c.deref-place-items.ensures.value ∙ c.in_ok-places-2.ensures
    ∙ ap (rising network_cmp) (c.deref.ensures.value ∙ c.in_ok-places.ensures ∙ ap (filter_map network_place) c.lsas.ensures))
