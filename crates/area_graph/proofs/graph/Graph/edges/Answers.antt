use Rattle.std.proofs.Common.{◌∙◌, ◌<◌, ap, sym, subst, length}
use Rattle.area_graph.specs.Topology.{Topology, IsTopology, row_at}
use Rattle.area_graph.proofs.TopologyLemmas.{targets_in_row, once_in_row}
use Rattle.area_graph.proofs.graph.Graph.edges.Goals as goal

pub row-requires : goal.row-requires
row-requires g c =
    let within = subst (λ (t : Topology). c.args.index < length t.vertices) (sym c.self.view_is) c.requires in
    let sized = c.self.invariant.0.a_row_each in
    subst (λ n. c.args.index < n) (sym sized) within

pub returns : goal.returns
returns g c =
    let shape = subst IsTopology c.self.view_is c.self.invariant.0 in
    let row = c.row.ensures ∙ ap (λ (t : Topology). row_at t c.args.index) c.self.view_is in
    record {
      row = row;
      targets = targets_in_row c.args.self.now shape c.args.index c.row.result.now row;
      once = once_in_row c.args.self.now shape c.args.index c.row.result.now row;
      shape = shape;
    }
