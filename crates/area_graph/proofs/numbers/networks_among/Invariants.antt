use Rattle.std.proofs.Common.{◌≡◌, take, map}
use Rattle.area_graph.specs.Vertex.{is_network}
use Rattle.area_graph.proofs.numbers.networks_among.Given as goal

abbrev pub invariant-loop-vertex : goal.invariant-loop-vertex
invariant-loop-vertex g l = l.networks.items ≡ map is_network (take l.vertex-index l.vertices)
