-- The trees of an area in memory: its graph, and the trees of routers in it.
use Rattle.std.specs.Prelude.{◌≡◌, ℕ, Bool, is_some, if◌then◌else◌, List, IfSome}
use Rattle.std.specs.Map.{lookup}
use Rattle.std.specs.Ordering.{eq_by_cmp}
use Rattle.lsa_codec.specs.declared.address.RouterId.{RouterId}
use Rattle.area_graph.specs.declared.vertex.Vertex.TheVariants.{Router}
use Rattle.area_graph.specs.Graphs.{IsGraphOf}
use Rattle.area_graph.specs.Topology.{Topology}
use Rattle.spf.specs.Distances.{Distances, IsTreeOf}
use Rattle.next_hops.specs.declared.hop.Hop.{Hop}
use Rattle.next_hops.specs.FirstHops.{table_of}
use Rattle.lsa_codec.specs.Order.{router_cmp}
use Rattle.area_routes.specs.declared.stub_links.StubLink.{StubLink}
use Rattle.area_routes.specs.StubLinks.{AreStubLinksOf}

-- the tree of a router, and the next hops of its vertices
pub record RouterTreeValue : Type 0 where
  pub tree : Distances
  pub hops : List (List Hop)

-- the graph of an area, the stub links of its routers, and trees in the graph by their routers
pub record AreaTreesValue : Type 0 where
  pub graph : Topology
  pub stubs : List StubLink
  pub trees : List (RouterId × RouterTreeValue)

pub record IsTreeIn (graph : Topology) (router : RouterId) (t : RouterTreeValue) : Type 0 where
  pub tree : IsTreeOf graph (Router router) t.tree
  pub hops : t.hops ≡ table_of graph (Router router)

-- each is the tree of its router in the graph
abbrev pub AreTreesIn : Topology → List (RouterId × RouterTreeValue) → Type 0
AreTreesIn graph trees = (router : RouterId) → IfSome (lookup (eq_by_cmp router_cmp router) trees) (IsTreeIn graph router)

-- graph and stub links are those of an area with these LSAs
pub record IsAreaOf (lsas : List (List ℕ)) (kept : AreaTreesValue) : Type 0 where
  pub graph : IsGraphOf lsas kept.graph
  pub stubs : AreStubLinksOf lsas kept.stubs

-- the graph and the stub links
abbrev pub graph_and_stubs : AreaTreesValue → Topology × List StubLink
graph_and_stubs kept = (kept.graph, kept.stubs)

abbrev pub has_tree : AreaTreesValue → RouterId → Bool
has_tree kept router = is_some (lookup (eq_by_cmp router_cmp router) kept.trees)

-- how many trees are to be calculated where there is one, or none
abbrev pub missing : Bool → ℕ
missing is_there = if is_there then 0 else 1
