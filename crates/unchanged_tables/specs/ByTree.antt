-- The distances from a router whose shortest-path tree is kept.
use Rattle.std.specs.Prelude.{◌≡◌, slice_get}
use Rattle.std.specs.Option.{option_and_then}
use Rattle.lsa_codec.specs.declared.address.RouterId.{RouterId}
use Rattle.area_graph.specs.declared.vertex.Vertex.TheVariants.{Router}
use Rattle.area_graph.specs.AllPaths.{distance_of}
use Rattle.area_graph.specs.Topology.{Topology, edges_of}
use Rattle.spf.specs.Distances.{Distances, IsTreeOf}
use Rattle.unchanged_tables.specs.Slack.{DistanceOf}

-- a tree in a graph
pub record TreeIn : Type 0 where
  pub graph : Topology
  pub tree : Distances

-- the distances from the root of a tree
abbrev pub distances_by : TreeIn → DistanceOf
distances_by t v = option_and_then (λ root. distance_of (edges_of t.graph) root v) (slice_get t.graph.vertices t.tree.root)

-- the tree is that of some router
abbrev pub IsOfRouter : TreeIn → Type 0
IsOfRouter t = (router : RouterId) × IsTreeOf t.graph (Router router) t.tree

-- the tree of this router in this graph
pub record IsOf (whole : Topology) (router : RouterId) (t : TreeIn) : Type 0 where
  pub graph : t.graph ≡ whole
  pub tree : IsTreeOf whole (Router router) t.tree
