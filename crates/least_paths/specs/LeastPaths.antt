-- The edges on paths of least cost from one vertex to others, over all paths of any length (RFC 2328, 16.1).
use Rattle.std.specs.Prelude.{◌↔◌, ℕ, ◌+◌, ◌==◌, Bool, false, List, Contains, Option, None, Some}
use Rattle.std.specs.List.{list_any}
use Rattle.area_graph.specs.declared.vertex.Vertex.{Vertex}
use Rattle.area_graph.specs.AllPaths.{distance_of}
use Rattle.area_graph.specs.Paths.{DirectedEdge, path_cost, IsPath, NoPathBelow, IsLeastCost}
use Rattle.area_graph.specs.Topology.{Topology, IsEdge}
use Rattle.least_paths.specs.declared.least_edge.LeastEdge.{LeastEdge}

module _ (IsEdge : DirectedEdge Vertex → Type 0) where
  -- a path of least cost from one vertex to another
  pub record IsLeastPath (root : Vertex) (es : List (DirectedEdge Vertex)) (target : Vertex) : Type 0 where
    pub path : IsPath IsEdge root es target
    pub least : NoPathBelow IsEdge root target (path_cost es)

  -- an edge on a path of least cost to one of the targets
  pub record IsOnLeastPath (root : Vertex) (targets : List Vertex) (e : DirectedEdge Vertex) : Type 0 where
    pub target : Vertex
    pub is_target : Contains targets target
    pub es : List (DirectedEdge Vertex)
    pub least : IsLeastPath root es target
    pub on : Contains es e

-- the edge, without the distance
abbrev pub edge_of : LeastEdge → DirectedEdge Vertex
edge_of e = record { from = e.from; to = e.to; cost = e.cost; link_data = e.link_data }

-- an edge of the graph on a path of least cost to one of the targets, with the distance of its start
pub record IsLeastEdge (t : Topology) (root : Vertex) (targets : List Vertex) (e : LeastEdge) : Type 0 where
  pub on_path : IsOnLeastPath (IsEdge t) root targets (edge_of e)
  pub start : IsLeastCost (IsEdge t) root e.from e.distance

-- these are all such edges, in some order
abbrev pub AreLeastEdges : Topology → Vertex → List Vertex → List LeastEdge → Type 0
AreLeastEdges t root targets found = (e : LeastEdge) → Contains found e ↔ IsLeastEdge t root targets e

-- ---- by distances

-- a distance, a cost and another distance make a third
abbrev pub adds_up : Option ℕ → ℕ → Option ℕ → Option ℕ → Bool
adds_up None cost rest whole = false
adds_up (Some near) cost None whole = false
adds_up (Some near) cost (Some rest) None = false
adds_up (Some near) cost (Some rest) (Some whole) = (near + cost) + rest == whole

module _ (edges : List (DirectedEdge Vertex)) (root : Vertex) where
  -- the distance of an edge's start, its cost, and the distance from its end to a target make the distance of the target
  abbrev pub is_on_way_to : DirectedEdge Vertex → Vertex → Bool
  is_on_way_to e target = adds_up (distance_of edges root e.from) e.cost (distance_of edges e.to target) (distance_of edges root target)

  -- so it is for one of the targets
  abbrev pub is_on_way : List Vertex → DirectedEdge Vertex → Bool
  is_on_way targets e = list_any (is_on_way_to e) targets
