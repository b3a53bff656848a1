-- Changes of the cost of one interface of a router (RFC 2328, 2.1 and C.3), as its router-LSA shows them.
use Rattle.std.specs.Prelude.{◌≡◌, ◌⊎◌, ◌&&◌, ◌==◌, ℕ, Bool, false, if◌then◌else◌, List}
use Rattle.std.specs.List.{AllZip}
use Rattle.std.specs.Option.{option_map_or}
use Rattle.lsa_codec.specs.declared.link.Link.{Link}
use Rattle.lsa_codec.specs.Fields.{advertising_router_of}
use Rattle.lsa_codec.specs.Key.{is_at_max_age}
use Rattle.lsa_codec.specs.Links.{links_of}
use Rattle.area_graph.specs.declared.cost_change.CostChange.{CostChange}
use Rattle.area_graph.specs.declared.vertex.Vertex.TheVariants.{Router}
use Rattle.area_graph.specs.Vertex.{is_same}
use Rattle.area_graph.specs.Area.{vertex_of}
use Rattle.area_graph.specs.AreaEdges.{target_of}
use Rattle.area_graph.specs.Joins.{IsRouterLsaOf}

-- whether a link of the router leads to the vertex over the interface
abbrev pub is_over : CostChange → Link → Bool
is_over change link = option_map_or (is_same change.to) (target_of link) false && (link.link_data.0 == change.link_data.0)

-- the metric of a link after the change
abbrev pub changed_metric : CostChange → Link → ℕ
changed_metric change link = if is_over change link then change.cost else link.metric

-- a link before and after: the same, except for the metric of a link over the interface
pub record IsChangedLink (change : CostChange) (old new : Link) : Type 0 where
  pub kind : new.kind ≡ old.kind
  pub id : new.id ≡ old.id
  pub link_data : new.link_data ≡ old.link_data
  pub metric : new.metric ≡ changed_metric change old

-- the router-LSA of the router before and after
pub record IsChangedLsa (change : CostChange) (old new : List ℕ) : Type 0 where
  pub was : IsRouterLsaOf change.from old
  pub is : IsRouterLsaOf change.from new
  pub adv : advertising_router_of new ≡ advertising_router_of old
  pub age : is_at_max_age new ≡ is_at_max_age old
  pub links : AllZip (IsChangedLink change) (links_of old) (links_of new)

-- an LSA of an area before and after: the router's, or the same one of another vertex
abbrev pub IsChanged : CostChange → List ℕ → List ℕ → Type 0
IsChanged change old new = ((new ≡ old) × (is_same (vertex_of old) (Router change.from) ≡ false)) ⊎ IsChangedLsa change old new

-- the LSAs of an area before and after
abbrev pub AreChanged : CostChange → List (List ℕ) → List (List ℕ) → Type 0
AreChanged change olds news = AllZip (IsChanged change) olds news
