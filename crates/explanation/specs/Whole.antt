-- Why a router's route to a prefix is what it is: all that the reply to `explain` has (RFC 2328, 16).
use Rattle.std.specs.Prelude.{◌≡◌, ◌↔◌, List, Contains, Option, map}
use Rattle.lsa_codec.specs.Prefix.{Net}
use Rattle.area_graph.specs.declared.vertex.Vertex.{Vertex}
use Rattle.route_lines.specs.RouteLines.{RouteLineValue}
use Rattle.route_candidates.specs.declared.candidate.Candidate.{Candidate}
use Rattle.route_candidates.specs.declared.target.Target.{Target}
use Rattle.route_candidates.specs.Candidates.{candidates}
use Rattle.route_candidates.specs.Targets.{route_targets}
use Rattle.area_candidates.specs.Views.{AreaViewValue, area_views}
use Rattle.route_candidates.specs.RouterViews.{RouterViewValue}
use Rattle.explanation.specs.declared.candidate_line.CandidateLine.{CandidateLine}
use Rattle.explanation.specs.declared.rest.Rest.{Rest}
use Rattle.explanation.specs.declared.way_step.WayStep.{WayStep}
use Rattle.explanation.specs.WaySteps.{AreRests, AreTargetsIn, IsStep}
use Rattle.explanation.specs.Texts.{ExplanationValue}
use Rattle.explanation.specs.steps.Edges.{InsertsSteps}
use Rattle.explanation.specs.steps.Resting.{InsertsRests, IsVertexRestBy}

abbrev pub lines_of_candidates : List Candidate → List CandidateLine
lines_of_candidates cs = map (λ c. record { candidate = c }) cs

-- a step on a path of least cost in an area, to one of the targets there
abbrev pub IsStepIn : List Target → AreaViewValue → WayStep → Type 0
IsStepIn targets view step = (vertices : List Vertex) × AreTargetsIn targets view.area vertices × IsStep view vertices step

-- one of some area
abbrev pub IsAnyStep : List AreaViewValue → List Target → WayStep → Type 0
IsAnyStep views targets step = (view : AreaViewValue) × Contains views view × IsStepIn targets view step

-- the explanation of a router's route to a prefix
pub record IsExplanation (view : RouterViewValue) (net : Net) (route : Option RouteLineValue) (e : ExplanationValue) : Type 0 where
  pub its_route : e.route ≡ route
  pub all : e.candidates ≡ lines_of_candidates (candidates view net)
  pub ways : (step : WayStep) → Contains e.ways step ↔ IsAnyStep (area_views view.db view.router) (route_targets view net) step
  pub rests : AreRests (area_views view.db view.router) (candidates view net) (route_targets view net) e.rests

-- the LSA of a vertex on paths of least cost in an area, to the targets there
abbrev pub IsRestIn : List Target → AreaViewValue → Rest → Type 0
IsRestIn targets view rest = (vertices : List Vertex) × AreTargetsIn targets view.area vertices × IsVertexRestBy view vertices rest

-- that of one of some areas
abbrev pub IsAnyRest : List AreaViewValue → List Target → Rest → Type 0
IsAnyRest views targets rest = (view : AreaViewValue) × Contains views view × IsRestIn targets view rest

-- one more area: its steps, and the LSAs of the vertices on its paths
pub record ExplainsArea (view : AreaViewValue) (targets : List Target) (ways ways' : List WayStep) (rests rests' : List Rest) : Type 0 where
  pub steps : InsertsSteps (IsStepIn targets view) ways ways'
  pub resting : InsertsRests (IsRestIn targets view) rests rests'

-- some more areas
pub record ExplainsAreas (views : List AreaViewValue) (targets : List Target) (ways ways' : List WayStep) (rests rests' : List Rest) : Type 0 where
  pub steps : InsertsSteps (IsAnyStep views targets) ways ways'
  pub resting : InsertsRests (IsAnyRest views targets) rests rests'
