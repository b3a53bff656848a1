-- The distances by a tree are those over all paths of the area.
use Rattle.std.proofs.Common.{◌≡◌, ℕ, List, Some, None, sym, ap, ◌∙◌, subst}
use Rattle.std.specs.Prelude.{slice_get, slice_index_or}
use Rattle.std.specs.Option.{option_and_then}
use Rattle.lsa_codec.specs.declared.address.RouterId.{RouterId}
use Rattle.area_graph.specs.declared.vertex.Vertex.{Vertex}
use Rattle.area_graph.specs.declared.vertex.Vertex.TheVariants.{Router}
use Rattle.area_graph.specs.AllPaths.{distance_of}
use Rattle.area_graph.specs.Graphs.{IsGraphOf}
use Rattle.area_graph.specs.Topology.{Topology, edges_of}
use Rattle.area_graph.proofs.EdgeLemmas.{distance-is}
use Rattle.area_graph.proofs.GraphLemmas.{distance_of-area}
use Rattle.spf.specs.Distances.{IsTreeOf}
use Rattle.unchanged_tables.specs.ByTree.{IsOf, IsOfRouter, TreeIn, distances_by}
use Rattle.unchanged_tables.specs.Steady.{distances_from}

by_root : (t : TreeIn) (router : RouterId) → IsTreeOf t.graph (Router router) t.tree → (v : Vertex)
    → distances_by t v ≡ distance_of (edges_of t.graph) (Router router) v
by_root t router is v = ap (option_and_then (λ (root : Vertex). distance_of (edges_of t.graph) root v)) is.root_at

-- what the tree has at the number of a vertex
pub tree_distance : (t : TreeIn) (i : ℕ) (v : Vertex) → IsOfRouter t → slice_get t.graph.vertices i ≡ Some v
    → slice_index_or t.tree.distances i None ≡ distances_by t v
tree_distance t i v (router, is) at =
    distance-is t.graph (Router router) v (slice_index_or t.tree.distances i None) (is.distance i v at)
    ∙ sym (by_root t router is v)

-- the distances in an area, by the tree of a router in its graph
pub tree_distances : (lsas : List (List ℕ)) (graph : Topology) (router : RouterId) (t : TreeIn) → IsGraphOf lsas graph → IsOf graph router t
    → distances_by t ≡ distances_from router lsas
tree_distances lsas graph router t is of =
    let tree = subst (λ (g : Topology). IsTreeOf g (Router router) t.tree) (sym of.graph) of.tree in
    let whole = subst (λ (g : Topology). IsGraphOf lsas g) (sym of.graph) is in
    let each : (v : Vertex) → distances_by t v ≡ distances_from router lsas v =
    λ v. by_root t router tree v ∙ distance_of-area lsas t.graph whole (Router router) v in
    λ i v. each v i
