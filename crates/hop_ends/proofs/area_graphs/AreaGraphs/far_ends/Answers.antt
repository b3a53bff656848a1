use Rattle.std.proofs.Common.{◌≡◌, ◌∙◌, ◌≤◌, List, length, take, sym, ap, subst, arith}
use Rattle.std.specs.List.{flat_map}
use Rattle.std.proofs.lemmas.List.{take_all}
use Rattle.std.proofs.lemmas.Result.{IfOk-weaker}
use Rattle.lsa_codec.specs.Order.{router_cmp}
use Rattle.lsdb.specs.Lists.{AreaHead, areas_of}
use Rattle.area_graph.specs.Rising.{rising}
use Rattle.area_graph.specs.Topology.{Topology}
use Rattle.hop_ends.specs.Owners.{AreAreaGraphs, edges_in, far_ends_in}
use Rattle.hop_ends.proofs.FirstGraphs.{graph_at}
use Rattle.hop_ends.proofs.Taken.{flat_taken}
use Rattle.hop_ends.proofs.area_graphs.AreaGraphs.far_ends.Goals as goal

pub loop-graph-preserved : goal.loop-graph-preserved
loop-graph-preserved g c = λ db are.
    let graphs = c.as_slice-graph-items.result.now in
    let i = c.loop-graph.graph-index in
    let at = graph_at db graphs (subst (λ (gs : List Topology). AreAreaGraphs db gs) (sym c.as_slice-graph-items.ensures) are.areas) i c.loop-graph-test.true
    c.graph-item.result c.graph-item.is in
    let ends = far_ends_in db c.args.router c.args.interface in
    c.in_ok-push_far_ends.ensures (edges_in db at.area) (flat_map ends (take i (areas_of db))) at.graph_of.edges (c.loop-graph.invariant db are)
    ∙ ap (rising router_cmp) (sym (flat_taken ends (areas_of db) i at.area at.at))

pub returns : goal.returns
returns g c =
    IfOk-weaker c.in_order.result _ _ (λ v h. λ db are.
    let sized : length c.args.self.now.graphs ≡ length (areas_of db) = are.areas.sized in
    let same : length c.as_slice-graph-items.result.now ≡ length c.args.self.now.graphs =
    ap (λ (gs : List Topology). length gs) c.as_slice-graph-items.ensures in
    let all : length (areas_of db) ≤ c.loop-graph.graph-index = omega arith in
    h ∙ ap (rising router_cmp) c.deref.ensures.value ∙ c.loop-graph.invariant db are
    ∙ ap (λ (areas : List AreaHead). rising router_cmp (flat_map (far_ends_in db c.args.router c.args.interface) areas))
    (take_all c.loop-graph.graph-index (areas_of db) all))
    c.in_order.ensures
