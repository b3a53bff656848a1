-- Distances in an area, by its graph and the router's tree.
use Rattle.std.proofs.Common.{◌≡◌, ℕ, List, [], ◌∷◌, get_or, None, Some, ◌∙◌, subst}
use Rattle.std.specs.List.{Contains, slice_get}
use Rattle.std.proofs.lemmas.Option.{get_or_from_slice_get, slice_get_within}
use Rattle.area_graph.specs.declared.vertex.Vertex.{Vertex}
use Rattle.area_graph.specs.declared.vertex.Vertex.TheVariants.{Router}
use Rattle.area_graph.specs.Paths.{DirectedEdge, IsPath}
use Rattle.area_graph.specs.Topology.{Topology, IsEdge}
use Rattle.area_graph.proofs.EdgeLemmas.{distance-is}
use Rattle.area_graph.proofs.GraphLemmas.{distance_of-area}
use Rattle.spf.specs.Distances.{Distances}
use Rattle.area_candidates.specs.Views.{AreaViewValue, IsViewed, distance_in, lsas_in}

there_at : (vs : List Vertex) (i : ℕ) (v : Vertex) → slice_get vs i ≡ Some v → Contains vs v
there_at vs i v at = (i, slice_get_within vs i v at, get_or_from_slice_get vs i v v at)

-- an edge leads to a vertex
leads_there : (t : Topology) (e : DirectedEdge Vertex) → IsEdge t e → Contains t.vertices e.to
leads_there t e (i, j, arc, at_i, at_j) = there_at t.vertices j e.to at_j

-- a path from a vertex ends at one
ends_there : (t : Topology) (u w : Vertex) (es : List (DirectedEdge Vertex)) → Contains t.vertices u → IsPath (IsEdge t) u es w → Contains t.vertices w
ends_there t u w [] there p = subst (λ (v : Vertex). Contains t.vertices v) p there
ends_there t u w (e ∷ es) there (edge, from, rest) = ends_there t e.to w es (leads_there t e edge) rest

module _ (view : AreaViewValue) (graph : Topology) (tree : Distances) (is : IsViewed view graph tree) where
  -- the distance of a vertex with a number
  pub distance_at : (i : ℕ) (v : Vertex) → slice_get graph.vertices i ≡ Some v → get_or tree.distances i None ≡ distance_in view v
  distance_at i v at =
      distance-is graph (Router view.router) v (get_or tree.distances i None) (is.of_graph.distance i v at)
      ∙ distance_of-area (lsas_in view) graph is.of_area (Router view.router) v

  -- what is no vertex has none
  pub no_distance : (v : Vertex) → (Contains graph.vertices v → ⊥) → None ≡ distance_in view v
  no_distance v absent =
      distance-is graph (Router view.router) v None
      (λ es p. absent (ends_there graph (Router view.router) v es
      (there_at graph.vertices tree.root (Router view.router) is.of_graph.root_at) p))
      ∙ distance_of-area (lsas_in view) graph is.of_area (Router view.router) v
