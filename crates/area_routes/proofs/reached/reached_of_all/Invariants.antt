use Rattle.std.proofs.Common.{◌≡◌, ℕ, List, Option, map, take, drop}
use Rattle.std.specs.List.{filter_map}
use Rattle.area_graph.specs.declared.vertex.Vertex.{Vertex}
use Rattle.area_graph.specs.Area.{vertex_of}
use Rattle.next_hops.specs.declared.hop.Hop.{Hop}
use Rattle.area_routes.specs.Reached.{reached_by}
use Rattle.area_routes.proofs.reached.reached_of_all.Given as goal

-- the LSAs from the next one on are left
abbrev pub invariant-loop-index : goal.invariant-loop-index
invariant-loop-index g l =
    (l.rest ≡ drop l.index l.fn.lsas)
    × ((distance : Vertex → Option ℕ) (first : Vertex → List Hop)
    → l.tree.distances ≡ map (λ lsa. distance (vertex_of lsa)) l.fn.lsas → l.hops ≡ map (λ lsa. first (vertex_of lsa)) l.fn.lsas
    → l.reached.items ≡ filter_map (reached_by distance first) (take l.index l.fn.lsas))
