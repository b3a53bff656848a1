use Rattle.std.proofs.Common.{◌≡◌, ℕ, List, Option, map, take}
use Rattle.std.specs.List.{filter_map}
use Rattle.lsdb.specs.Slots.{lsas_in}
use Rattle.area_graph.specs.declared.vertex.Vertex.{Vertex}
use Rattle.area_graph.specs.Area.{used, vertex_of}
use Rattle.next_hops.specs.declared.hop.Hop.{Hop}
use Rattle.area_routes.specs.Reached.{reached_by}
use Rattle.area_routes.proofs.few_reached.vertices_by_keys.Given as goal

abbrev pub invariant-loop-index : goal.invariant-loop-index
invariant-loop-index g l =
    (distance : Vertex → Option ℕ) (first : Vertex → List Hop)
    → l.tree.distances ≡ map (λ lsa. distance (vertex_of lsa)) (used (lsas_in l.database l.section))
    → l.hops ≡ map (λ lsa. first (vertex_of lsa)) (used (lsas_in l.database l.section))
    → l.reached.items ≡ filter_map (reached_by distance first) (take l.index (used (lsas_in l.database l.section)))
