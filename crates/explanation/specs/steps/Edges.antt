-- Edges on paths of least cost, and the steps over them.
use Rattle.std.specs.Prelude.{◌≡◌, ◌==◌, ◌<◌, ◌^◌, ◌↔◌, ◌⊎◌, ◌+◌, Bool, false, true, if◌then◌else◌, List, All, Contains, Option, None, Some}
use Rattle.lsa_codec.specs.declared.address.Addr.{Addr}
use Rattle.lsa_codec.specs.declared.address.RouterId.{RouterId}
use Rattle.area_graph.specs.declared.vertex.Vertex.{Vertex}
use Rattle.area_graph.specs.declared.vertex.Vertex.TheVariants.{Router, Network}
use Rattle.area_graph.specs.Vertex.{is_network}
use Rattle.least_paths.specs.LeastPaths.{edge_of}
use Rattle.least_paths.specs.declared.least_edge.LeastEdge.{LeastEdge}
use Rattle.area_candidates.specs.Views.{AreaViewValue}
use Rattle.explanation.specs.WaySteps.{IsAt, IsOnWay}
use Rattle.explanation.specs.declared.steps.Start.{Start}
use Rattle.explanation.specs.declared.way_step.WayStep.{WayStep}

-- the edges of an area on paths of least cost, each with the distance of its start; those out of networks cost nothing
pub record AreEdgesIn (view : AreaViewValue) (targets : List Vertex) (edges : List LeastEdge) : Type 0 where
  pub members : (e : LeastEdge) → Contains edges e ↔ (IsOnWay view targets (edge_of e) × IsAt view targets e.from e.distance)
  pub small : All (λ e. e.distance < 2 ^ 32) edges
  pub free : (e : LeastEdge) → Contains edges e → is_network e.from ≡ true → e.cost ≡ 0

-- a step out of a router over an edge
abbrev pub step_of : Start → Bool → Addr → Option Addr → WayStep
step_of start is_network end over = record {
  area = start.area;
  distance = start.edge.distance;
  router = start.router;
  is_network = is_network;
  end = end;
  out = start.edge.link_data;
  over = over;
  cost = start.edge.cost;
  sum = start.edge.distance + start.edge.cost;
}

-- the router that an edge leads to from a network
abbrev pub onward_by : Vertex → Vertex → Addr → Option RouterId
onward_by (Network from) (Router router) network = if from.0 == network.0 then Some router else None
onward_by (Network from) (Network to) network = None
onward_by (Router from) to network = None

abbrev pub onward : LeastEdge → Addr → Option RouterId
onward e network = onward_by e.from e.to network

-- a step over a network and on to a router
abbrev pub IsStepOnward : Start → Addr → LeastEdge → WayStep → Type 0
IsStepOnward start network e step =
    (router : RouterId) × (onward e network ≡ Some router) × (step ≡ step_of start false (record { 0 = router.0 }) (Some network))

-- a step to a network that is a target
abbrev pub IsToTarget : Start → Addr → List Vertex → WayStep → Type 0
IsToTarget start network targets step = Contains targets (Network network) × (step ≡ step_of start true network None)

-- a step over a network: to itself, where it is a target, or on to a router
abbrev pub IsStepOver : Start → Addr → List LeastEdge → List Vertex → WayStep → Type 0
IsStepOver start network edges targets step =
    IsToTarget start network targets step ⊎ ((e : LeastEdge) × Contains edges e × IsStepOnward start network e step)

-- a step by an edge to a vertex
abbrev pub IsStepTo : Start → List LeastEdge → List Vertex → Vertex → WayStep → Type 0
IsStepTo start edges targets (Router router) step = step ≡ step_of start false (record { 0 = router.0 }) None
IsStepTo start edges targets (Network network) step = IsStepOver start network edges targets step

abbrev pub IsStepFrom : Start → List LeastEdge → List Vertex → WayStep → Type 0
IsStepFrom start edges targets step = IsStepTo start edges targets start.edge.to step

-- new has what old has, and what P holds of
abbrev pub InsertsSteps : (WayStep → Type 0) → List WayStep → List WayStep → Type 0
InsertsSteps P old new = (step : WayStep) → Contains new step ↔ (Contains old step ⊎ P step)
