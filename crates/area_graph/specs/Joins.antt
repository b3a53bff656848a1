-- The edges of an area as a set, case by case (RFC 2328, 16.1). The LSAs here are those in use.
use Rattle.std.specs.Prelude.{◌≡◌, ℕ, List, Contains}
use Rattle.lsa_codec.specs.LsTypes.{router_lsa, network_lsa}
use Rattle.lsa_codec.specs.declared.address.Addr.{Addr}
use Rattle.lsa_codec.specs.declared.address.RouterId.{RouterId}
use Rattle.lsa_codec.specs.declared.link.Link.{Link}
use Rattle.lsa_codec.specs.declared.link.LinkKind.TheVariants.{PointToPoint, Transit}
use Rattle.lsa_codec.specs.Fields.{kind_of, link_state_id_of}
use Rattle.lsa_codec.specs.Links.{links_of}
use Rattle.lsa_codec.specs.Views.{attached_of}
use Rattle.area_graph.specs.declared.vertex.Vertex.{Vertex}
use Rattle.area_graph.specs.declared.vertex.Vertex.TheVariants.{Router, Network}

-- a router-LSA of a router
abbrev pub IsRouterLsaOf : RouterId → List ℕ → Type 0
IsRouterLsaOf router lsa = (kind_of lsa ≡ router_lsa) × (link_state_id_of lsa ≡ router.0)

-- a network-LSA of a network
abbrev pub IsNetworkLsaOf : Addr → List ℕ → Type 0
IsNetworkLsaOf network lsa = (kind_of lsa ≡ network_lsa) × (link_state_id_of lsa ≡ network.0)

-- a point-to-point link whose Link ID is the router, or a link to a transit network whose Link ID is the network
abbrev pub IsLinkTo : Vertex → Link → Type 0
IsLinkTo (Router w) link = (link.kind ≡ PointToPoint) × (link.id.0 ≡ w.0)
IsLinkTo (Network n) link = (link.kind ≡ Transit) × (link.id.0 ≡ n.0)

-- a link of a router that leads to a vertex at this cost, with this Link Data
abbrev pub HasLink : List (List ℕ) → RouterId → Vertex → ℕ → Addr → Type 0
HasLink lsas router target cost link_data =
    (lsa : List ℕ) × (link : Link) × Contains lsas lsa × IsRouterLsaOf router lsa
    × Contains (links_of lsa) link × IsLinkTo target link × (link.metric ≡ cost) × (link.link_data ≡ link_data)

abbrev pub HasLinkTo : List (List ℕ) → RouterId → Vertex → Type 0
HasLinkTo lsas router target = (cost : ℕ) × (link_data : Addr) × HasLink lsas router target cost link_data

-- a network lists a router as attached
abbrev pub Lists : List (List ℕ) → Addr → RouterId → Type 0
Lists lsas network router = (lsa : List ℕ) × Contains lsas lsa × IsNetworkLsaOf network lsa × Contains (attached_of lsa) router

-- one vertex has an edge to another, of this cost and with this Link Data: the other end links back, and an edge out of a
-- network costs nothing and has the Link Data of the router's link
abbrev pub Joins : List (List ℕ) → Vertex → Vertex → ℕ → Addr → Type 0
Joins lsas (Router v) (Router w) cost d = HasLink lsas v (Router w) cost d × HasLinkTo lsas w (Router v)
Joins lsas (Router v) (Network n) cost d = HasLink lsas v (Network n) cost d × Lists lsas n v
Joins lsas (Network n) (Router x) cost d = (cost ≡ 0) × ((metric : ℕ) × HasLink lsas x (Network n) metric d) × Lists lsas n x
Joins lsas (Network n) (Network m) cost d = ⊥
