-- What a tree says of paths among the edges of an area.
use Rattle.std.proofs.Common.{◌≡◌, ℕ, List, None, Some, get_or, ap, subst, ◌∙◌}
use Rattle.std.specs.List.{Contains, filter_map, slice_get}
use Rattle.std.proofs.lemmas.List.{get_or-map}
use Rattle.std.proofs.lemmas.Option.{get_or_from_slice_get, slice_get_within}
use Rattle.lsa_codec.specs.declared.address.RouterId.{RouterId}
use Rattle.lsa_codec.proofs.OrderLemmas.{router_exact, router_total}
use Rattle.area_graph.specs.declared.vertex.Vertex.{Vertex}
use Rattle.area_graph.specs.declared.vertex.Vertex.TheVariants.{Router, Network}
use Rattle.area_graph.specs.AllPaths.{distance_of}
use Rattle.area_graph.specs.Area.{used}
use Rattle.area_graph.specs.AreaEdges.{area_edges}
use Rattle.area_graph.specs.Graphs.{IsGraphOf}
use Rattle.area_graph.specs.Topology.{Topology, edges_of}
use Rattle.area_graph.proofs.EdgeLemmas.{distance_of-edges}
use Rattle.area_graph.proofs.MemberLemmas.{Contains-from_In, In, In-from_Contains, Some-same, filter_map-In}
use Rattle.area_graph.proofs.RisingLemmas.{rising-In}
use Rattle.spf.specs.Distances.{Distances, tree_of}
use Rattle.audit_areas.specs.Areas.{router_of, routers_among}

-- the distance of a vertex with a number
pub reached : (lsas : List (List ℕ)) (t : Topology) → IsGraphOf lsas t → (root w : Vertex) (n : ℕ) → slice_get t.vertices n ≡ Some w
    → (tree : Distances) → tree ≡ tree_of t root → get_or tree.distances n None ≡ distance_of (area_edges (used lsas)) root w
reached lsas t graph root w n at tree is =
    ap (λ (all : Distances). get_or all.distances n None) is
    ∙ get_or-map (λ v. distance_of (edges_of t) root v) t.vertices n w None (slice_get_within t.vertices n w at)
    ∙ ap (λ (v : Vertex). distance_of (edges_of t) root v) (get_or_from_slice_get t.vertices n w w at)
    ∙ distance_of-edges t (area_edges (used lsas)) (λ e. (graph.edges e).0) (λ e. (graph.edges e).1) root w

-- a router among those of vertices is one of these
pub is_vertex : (vertices : List Vertex) (router : RouterId) → Contains (routers_among vertices) router → Contains vertices (Router router)
is_vertex vertices router listed = by_vertex found.0 found.1 found.2
  where
    found : (v : Vertex) × In vertices v × (router_of v ≡ Some router)
    found =
        filter_map-In router_of vertices router
        (rising-In router_total router_exact (filter_map router_of vertices) router (In-from_Contains (routers_among vertices) router listed))

    by_vertex : (v : Vertex) → In vertices v → router_of v ≡ Some router → Contains vertices (Router router)
    by_vertex (Router other) there is =
        Contains-from_In vertices (Router router) (subst (λ (r : RouterId). In vertices (Router r)) (Some-same is) there)
    by_vertex (Network address) there is = absurd (cc)
