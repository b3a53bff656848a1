-- Links over which no path of least cost leads, and changes of their metrics (RFC 2328, 16.1).
use Rattle.std.specs.Prelude.{◌≡◌, ◌⊎◌, ◌<◌, ◌+◌, ℕ, true, List, Option, IfSome, IsSomeAnd}
use Rattle.std.specs.List.{AllZip}
use Rattle.lsa_codec.specs.declared.link.Link.{Link}
use Rattle.lsa_codec.specs.Fields.{link_state_id_of, advertising_router_of}
use Rattle.lsa_codec.specs.Key.{is_at_max_age}
use Rattle.lsa_codec.specs.Links.{links_of}
use Rattle.area_graph.specs.declared.vertex.Vertex.{Vertex}
use Rattle.area_graph.specs.Paths.{DirectedEdge}
use Rattle.area_graph.specs.Area.{is_router_lsa, vertex_of}
use Rattle.area_graph.specs.AreaEdges.{edge_over}
use Rattle.area_routes.specs.Entries.{flags_of}

-- the distance of each vertex that is reached
abbrev pub DistanceOf : Type 0
DistanceOf = Vertex → Option ℕ

-- an edge over which no path of least cost leads: its start is not reached, or its end is nearer than over the edge
abbrev pub IsSlack : DistanceOf → DirectedEdge Vertex → Type 0
IsSlack distance e = IfSome (distance e.from) (λ near. IsSomeAnd (distance e.to) (λ far. far < near + e.cost))

-- a link to a vertex, over a slack edge
abbrev pub IsSlackLink : DistanceOf → Vertex → Link → Type 0
IsSlackLink distance v link = IsSomeAnd (edge_over v link) (IsSlack distance)

-- a link before and after a change: the same, except for its metric where the link is slack before and
-- after
pub record IsSteadyLink (distance : DistanceOf) (v : Vertex) (old new : Link) : Type 0 where
  pub kind : new.kind ≡ old.kind
  pub id : new.id ≡ old.id
  pub link_data : new.link_data ≡ old.link_data
  pub metric : (new.metric ≡ old.metric) ⊎ (IsSlackLink distance v old × IsSlackLink distance v new)

-- a router-LSA before and after a change of such metrics
pub record IsSteadyLsa (distance : DistanceOf) (old new : List ℕ) : Type 0 where
  pub was_router : is_router_lsa old ≡ true
  pub is_router : is_router_lsa new ≡ true
  pub id : link_state_id_of new ≡ link_state_id_of old
  pub adv : advertising_router_of new ≡ advertising_router_of old
  pub age : is_at_max_age new ≡ is_at_max_age old
  pub flags : flags_of new ≡ flags_of old
  pub links : AllZip (IsSteadyLink distance (vertex_of old)) (links_of old) (links_of new)

-- LSAs of an area before and after a change: the same, or such a router-LSA
abbrev pub AreSteadyLsas : DistanceOf → List (List ℕ) → List (List ℕ) → Type 0
AreSteadyLsas distance olds news = AllZip (λ old new. (new ≡ old) ⊎ IsSteadyLsa distance old new) olds news
