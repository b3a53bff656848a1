use Rattle.std.proofs.Common.{◌≡◌, filter, map}
use Rattle.area_graph.specs.Area.{is_vertex_lsa}
use Rattle.area_graph.proofs.used.vertex_lsas.Given as goal

abbrev pub invariant-loop-lsa : goal.invariant-loop-lsa
invariant-loop-lsa g l = l.found.items ≡ filter is_vertex_lsa (map (λ lsa. lsa.now) l.yielded)
