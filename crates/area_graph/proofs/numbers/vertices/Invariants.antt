use Rattle.std.proofs.Common.{◌≡◌, take, map}
use Rattle.area_graph.specs.Area.{vertex_of}
use Rattle.area_graph.proofs.numbers.vertices.Given as goal

abbrev pub invariant-loop-lsa : goal.invariant-loop-lsa
invariant-loop-lsa g l = l.found.keys ≡ map vertex_of (take l.lsa-index l.lsas)
