use Rattle.std.proofs.Common.{◌++◌, ◌∙◌, List, ap}
use Rattle.area_routes.proofs.AddsLemmas.{flat_map_adds}
use Rattle.link_report.proofs.PushedLemmas.{made_all, made_more}
use Rattle.audit_topology.specs.Networks.{OfPrefix, networks_in}
use Rattle.audit_topology.proofs.networks.networks_in_all.Goals as goal

pub loop-area-preserved : goal.loop-area-preserved
loop-area-preserved g c =
    made_more (flat_map_adds (networks_in c.args.areas.now)) c.args.areas.now c.loop-area.area-index c.area-item.result c.loop-area.found.items _
    c.loop-area-test.true c.area-item.is c.loop-area.invariant
    (c.in_ok-append.ensures.items ∙ ap (λ (l : List OfPrefix). c.loop-area.found.items ++ l) c.in_ok-more.ensures)

pub returns : goal.returns
returns g c =
    made_all (flat_map_adds (networks_in c.args.areas.now)) c.args.areas.now c.loop-area.area-index c.loop-area.found.items c.loop-area-test.false
    c.loop-area.invariant
