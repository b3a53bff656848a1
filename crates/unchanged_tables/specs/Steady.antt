-- Changes of a database that leave the routing table of a router as it is (RFC 2328, 16.1).
use Rattle.std.specs.Prelude.{◌≡◌, ◌⊎◌, ◌||◌, ◌&&◌, not, ℕ, Bool, true, false, List, Option, Some, None}
use Rattle.std.specs.List.{AllZip}
use Rattle.lsa_codec.specs.declared.address.RouterId.{RouterId}
use Rattle.lsa_codec.specs.Key.{router_key}
use Rattle.lsdb.specs.Lists.{AreaHead, Lists, SectionLsas, has_key}
use Rattle.area_graph.specs.declared.vertex.Vertex.TheVariants.{Router}
use Rattle.area_graph.specs.Area.{is_network_lsa, is_router_lsa, used}
use Rattle.area_graph.specs.AreaEdges.{area_edges}
use Rattle.area_graph.specs.AllPaths.{distance_of}
use Rattle.area_routes.specs.Attached.{has_live_router_lsa}
use Rattle.unchanged_tables.specs.Slack.{AreSteadyLsas, DistanceOf}

-- the distances in an area with these LSAs from a router
abbrev pub distances_from : RouterId → List (List ℕ) → DistanceOf
distances_from router lsas v = distance_of (area_edges (used lsas)) (Router router) v

-- a router-LSA or network-LSA of another router
abbrev pub is_foreign : RouterId → List ℕ → Bool
is_foreign router lsa = (is_router_lsa lsa || is_network_lsa lsa) && not (has_key (router_key router) lsa)

-- an LSA before and after a change in an area that the router is not attached to: the same, or both are foreign
abbrev pub IsElsewhere : RouterId → List ℕ → List ℕ → Type 0
IsElsewhere router old new = (new ≡ old) ⊎ ((is_foreign router old ≡ true) × (is_foreign router new ≡ true))

-- the LSAs of an area before and after a change
abbrev pub AreSteadyIn : RouterId → Option AreaHead → List (List ℕ) → List (List ℕ) → Type 0
AreSteadyIn router None olds news = news ≡ olds
AreSteadyIn router (Some area) olds news =
    AreSteadyLsas (distances_from router olds) olds news
    ⊎ ((has_live_router_lsa router olds ≡ false) × AllZip (IsElsewhere router) olds news)

-- a section before and after a change
pub record IsSteadySection (router : RouterId) (old new : SectionLsas) : Type 0 where
  pub area : new.area ≡ old.area
  pub lsas : AreSteadyIn router old.area old.lsas new.lsas

-- a database before and after a change
abbrev pub AreSteady : RouterId → Lists → Lists → Type 0
AreSteady router olds news = AllZip (IsSteadySection router) olds news
