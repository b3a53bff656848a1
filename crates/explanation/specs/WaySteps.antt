-- The steps on paths of least cost to the targets of a route, and the LSAs on which the route rests (RFC 2328, 16.1).
use Rattle.std.specs.Prelude.{◌≡◌, ◌↔◌, ◌⊎◌, ℕ, ◌+◌, false, true, List, Contains, Option, None, Some}
use Rattle.lsa_codec.specs.declared.address.Addr.{Addr}
use Rattle.lsa_codec.specs.declared.address.AreaId.{AreaId}
use Rattle.lsa_codec.specs.declared.address.RouterId.{RouterId}
use Rattle.area_graph.specs.declared.vertex.Vertex.{Vertex}
use Rattle.area_graph.specs.declared.vertex.Vertex.TheVariants.{Router, Network}
use Rattle.area_graph.specs.Area.{used}
use Rattle.area_graph.specs.AreaEdges.{area_edges}
use Rattle.area_graph.specs.InUse.{IsLsaOf}
use Rattle.area_graph.specs.Paths.{DirectedEdge, IsLeastCost}
use Rattle.lsa_names.specs.LsaNames.{lsa_name}
use Rattle.lsa_names.specs.declared.lsa_name.LsaName.{LsaName}
use Rattle.least_paths.specs.LeastPaths.{IsOnLeastPath}
use Rattle.route_candidates.specs.declared.candidate.Candidate.{Candidate}
use Rattle.route_candidates.specs.declared.target.Target.{Target}
use Rattle.route_candidates.specs.Decided.{is_used}
use Rattle.area_candidates.specs.Views.{AreaViewValue, lsas_in}
use Rattle.explanation.specs.declared.rest.Rest.{Rest}
use Rattle.explanation.specs.declared.way_step.WayStep.{WayStep}

-- ---- edges

-- a vertex of the area is a target
abbrev pub IsTargetIn : List Target → AreaId → Vertex → Type 0
IsTargetIn targets area v = (target : Target) × Contains targets target × (target.area ≡ area) × (target.vertex ≡ v)

module _ (view : AreaViewValue) (targets : List Vertex) where
  -- an edge of the area on a path of least cost from the router to one of the targets
  abbrev pub IsOnWay : DirectedEdge Vertex → Type 0
  IsOnWay e = IsOnLeastPath (λ f. Contains (area_edges (used (lsas_in view))) f) (Router view.router) targets e

  -- the distance of a vertex
  abbrev pub IsAt : Vertex → ℕ → Type 0
  IsAt v d = IsLeastCost (λ f. Contains (area_edges (used (lsas_in view))) f) (Router view.router) v d

  -- ---- steps

  -- a step out of a router by an edge to a router, or by an edge to a network and on to a router, or by one to a network that is a
  -- target
  abbrev pub edge_out : RouterId → Vertex → WayStep → DirectedEdge Vertex
  edge_out router to step = record { from = Router router; to = to; cost = step.cost; link_data = step.out }

  -- to a router over a link
  pub record IsOverLink (step : WayStep) : Type 0 where
    pub router : step.is_network ≡ false
    pub no_network : step.over ≡ None
    pub edge : IsOnWay (edge_out step.router (Router (record { 0 = step.end.0 })) step)

  -- to a network that is a target
  pub record IsToNetwork (step : WayStep) : Type 0 where
    pub network : step.is_network ≡ true
    pub none_between : step.over ≡ None
    pub target : Contains targets (Network step.end)
    pub edge : IsOnWay (edge_out step.router (Network step.end) step)

  -- over a network to a router
  pub record IsOverNetwork (step : WayStep) : Type 0 where
    pub router : step.is_network ≡ false
    pub between : Addr
    pub is_between : step.over ≡ Some between
    pub edge : IsOnWay (edge_out step.router (Network between) step)
    pub back : Addr
    pub on : IsOnWay (record { from = Network between; to = Router (record { 0 = step.end.0 }); cost = 0; link_data = back })

  pub record IsStep (step : WayStep) : Type 0 where
    pub area : step.area ≡ view.area
    pub start : IsAt (Router step.router) step.distance
    pub sum : step.sum ≡ step.distance + step.cost
    pub by : IsOverLink step ⊎ (IsToNetwork step ⊎ IsOverNetwork step)

  -- these are all the steps
  abbrev pub AreSteps : List WayStep → Type 0
  AreSteps steps = (step : WayStep) → Contains steps step ↔ IsStep step

  -- ---- vertices

  -- a vertex of the paths: a target or the router itself, where there is a target, or an end of an edge
  abbrev pub IsOnPaths : Vertex → Type 0
  IsOnPaths v = Contains targets v ⊎ (((target : Vertex) × Contains targets target × (v ≡ Router view.router)) ⊎ ((e : DirectedEdge Vertex) × IsOnWay e × ((e.from ≡ v) ⊎ (e.to ≡ v))))

  -- the LSA in use of such a vertex
  abbrev pub IsVertexRest : LsaName → Type 0
  IsVertexRest name =
      (v : Vertex) × (lsa : List ℕ) × IsOnPaths v × IsLsaOf (lsas_in view) v lsa × (name ≡ lsa_name (Some view.area) lsa)

-- ---- what a route rests on

-- the LSA with a name, in the form in which they are ordered
abbrev pub rest_by : LsaName → Option AreaId → Rest
rest_by name None = record { is_as_wide = true; area = record { 0 = 0 }; key = name.key; net = name.net }
rest_by name (Some area) = record { is_as_wide = false; area = area; key = name.key; net = name.net }

abbrev pub rest_of : LsaName → Rest
rest_of name = rest_by name name.area

-- the targets of an area
abbrev pub AreTargetsIn : List Target → AreaId → List Vertex → Type 0
AreTargetsIn targets area vertices = (v : Vertex) → Contains vertices v ↔ IsTargetIn targets area v

-- the LSA of a used candidate, one by which a target is reached, or that of a vertex on paths of least cost
pub record IsRest (views : List AreaViewValue) (cs : List Candidate) (targets : List Target) (name : LsaName) : Type 0 where
  pub by : ((c : Candidate) × Contains cs c × (is_used c ≡ true) × (name ≡ c.lsa))
      ⊎ (((target : Target) × Contains targets target × (target.by ≡ Some name))
      ⊎ ((view : AreaViewValue) × (vertices : List Vertex) × Contains views view × AreTargetsIn targets view.area vertices × IsVertexRest view vertices name))

-- these are all of them
abbrev pub AreRests : List AreaViewValue → List Candidate → List Target → List Rest → Type 0
AreRests views cs targets rests = (rest : Rest) → Contains rests rest ↔ ((name : LsaName) × (rest ≡ rest_of name) × IsRest views cs targets name)
