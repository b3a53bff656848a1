use Rattle.std.proofs.Common.{[], ◌++◌, ◌∙◌, Option, ap}
use Rattle.std.specs.List.{cons_option}
use Rattle.area_routes.proofs.AddsLemmas.{filter_map_adds}
use Rattle.link_report.proofs.PushedLemmas.{made_all, made_more}
use Rattle.audit_topology.specs.Networks.{OfPrefix, network_in_use}
use Rattle.audit_topology.proofs.networks.networks_of.Goals as goal

pub loop-vertex-preserved : goal.loop-vertex-preserved
loop-vertex-preserved g c =
    let network = network_in_use c.args.areas.now c.args.area.now in
    let found = c.loop-vertex.found.items in
    made_more (filter_map_adds network) c.args.lsas.now c.loop-vertex.vertex-index c.vertex-item.result found _ c.loop-vertex-test.true c.vertex-item.is
    c.loop-vertex.invariant
    (c.in_ok-push_some.ensures
    ∙ ap (λ (o : Option OfPrefix). found ++ cons_option o []) (c.in_ok-network_in_use.ensures ∙ ap network c.lsa.ensures))

pub returns : goal.returns
returns g c =
    made_all (filter_map_adds (network_in_use c.args.areas.now c.args.area.now)) c.args.lsas.now c.loop-vertex.vertex-index c.loop-vertex.found.items
    c.loop-vertex-test.false c.loop-vertex.invariant
