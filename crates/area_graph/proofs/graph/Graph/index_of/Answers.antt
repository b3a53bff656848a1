use Rattle.std.proofs.Common.{◌≡◌, subst}
use Rattle.std.specs.Prelude.{IfSome, slice_get, Some}
use Rattle.area_graph.specs.Topology.{Topology}
use Rattle.area_graph.proofs.VertexNumbers.{number_found}
use Rattle.area_graph.proofs.graph.Graph.index_of.Goals as goal

pub returns-clause-number : goal.returns-clause-number
returns-clause-number g c =
    subst (λ (t : Topology). IfSome c.number_of.result (λ i. slice_get t.vertices i ≡ Some c.args.vertex)) c.self.view_is
    (number_found c.self.inside.vertices.keys c.args.vertex c.number_of.result c.number_of.ensures.number)
