-- The LSAs on which a route rests, as they are gathered.
use Rattle.std.specs.Prelude.{◌≡◌, ◌↔◌, ◌⊎◌, ◌&&◌, ◌||◌, ◌==◌, not, length, ℕ, Bool, true, List, Contains, Some}
use Rattle.std.specs.List.{list_any}
use Rattle.lsa_codec.specs.declared.address.RouterId.{RouterId}
use Rattle.area_graph.specs.declared.vertex.Vertex.{Vertex}
use Rattle.area_graph.specs.declared.vertex.Vertex.TheVariants.{Router}
use Rattle.area_graph.specs.Area.{vertex_of}
use Rattle.area_graph.specs.Vertex.{is_same}
use Rattle.lsa_names.specs.LsaNames.{lsa_name}
use Rattle.lsa_names.specs.declared.lsa_name.LsaName.{LsaName}
use Rattle.least_paths.specs.declared.least_edge.LeastEdge.{LeastEdge}
use Rattle.route_candidates.specs.declared.candidate.Candidate.{Candidate}
use Rattle.route_candidates.specs.declared.target.Target.{Target}
use Rattle.route_candidates.specs.Decided.{is_used}
use Rattle.area_candidates.specs.Views.{AreaViewValue}
use Rattle.explanation.specs.WaySteps.{IsVertexRest, rest_of}
use Rattle.explanation.specs.declared.rest.Rest.{Rest}

-- new has what old has, and what P holds of
abbrev pub InsertsRests : (Rest → Type 0) → List Rest → List Rest → Type 0
InsertsRests P old new = (rest : Rest) → Contains new rest ↔ (Contains old rest ⊎ P rest)

-- the LSA of a candidate, if it is used
abbrev pub IsUsedRest : Candidate → Rest → Type 0
IsUsedRest c rest = (is_used c ≡ true) × (rest ≡ rest_of c.lsa)

abbrev pub IsCandidateRest : List Candidate → Rest → Type 0
IsCandidateRest cs rest = (c : Candidate) × Contains cs c × IsUsedRest c rest

-- the LSA by which a target is reached
abbrev pub IsByRest : Target → Rest → Type 0
IsByRest target rest = (name : LsaName) × (target.by ≡ Some name) × (rest ≡ rest_of name)

abbrev pub IsTargetRest : List Target → Rest → Type 0
IsTargetRest targets rest = (target : Target) × Contains targets target × IsByRest target rest

-- a vertex is a target, or the router itself, where there is one, or an end of one of these edges
abbrev pub is_on_paths : RouterId → List Vertex → List LeastEdge → Vertex → Bool
is_on_paths router targets edges v =
    list_any (λ target. is_same target v) targets
    || ((is_same v (Router router) && not (length targets == 0)) || list_any (λ e. is_same e.from v || is_same e.to v) edges)

-- the LSA in use of such a vertex
abbrev pub IsLsaOnPaths : AreaViewValue → List Vertex → List LeastEdge → List ℕ → Rest → Type 0
IsLsaOnPaths view targets edges lsa rest =
    (is_on_paths view.router targets edges (vertex_of lsa) ≡ true) × (rest ≡ rest_of (lsa_name (Some view.area) lsa))

-- that of a vertex on paths of least cost
abbrev pub IsVertexRestBy : AreaViewValue → List Vertex → Rest → Type 0
IsVertexRestBy view targets rest = (name : LsaName) × IsVertexRest view targets name × (rest ≡ rest_of name)
