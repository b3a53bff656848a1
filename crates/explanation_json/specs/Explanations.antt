-- The JSON of why a route is what it is, as `explain` answers it (RFC 2328, 16).
use Rattle.std.specs.Prelude.{ℕ, Bool, if◌then◌else◌, List, [], ◌∷◌, ◌++◌, Option, None, Some, codes}
use Rattle.json.specs.Json.{Json, null, string}
use Rattle.lsa_codec.specs.Prefix.{Net}
use Rattle.lsa_codec.specs.declared.address.RouterId.{RouterId}
use Rattle.route_lines.specs.RouteLines.{RouteLineValue}
use Rattle.route_candidates.specs.declared.candidate.Candidate.{Candidate}
use Rattle.area_candidates.specs.Rules.{is_used_by, rule_text}
use Rattle.explanation.specs.Texts.{ExplanationValue, kind_rule, rest_name}
use Rattle.explanation.specs.declared.candidate_line.CandidateLine.{CandidateLine}
use Rattle.explanation.specs.declared.rest.Rest.{Rest}
use Rattle.explanation.specs.declared.way_step.WayStep.{WayStep}
use Rattle.study_json.specs.Fields.{Fields, object_of}
use Rattle.study_json.specs.Leaves.{address_json, area_json, array_json, number_json, option_json, prefix_json, router_json}
use Rattle.study_json.specs.Routes.{route_json}
use Rattle.finding_json.specs.Lsas.{lsa_json}

-- ---- candidates

abbrev pub state_text : Bool → List ℕ
state_text is_used = if is_used then codes "used" else codes "lost"

-- the distance and metric, and the rule
abbrev pub rule_fields : Candidate → Fields
rule_fields candidate =
    (codes "distance", option_json number_json candidate.distance) ∷ (codes "metric", number_json candidate.metric)
    ∷ (codes "rule", string (rule_text candidate.rule)) ∷ []

-- whether it is used, its LSA and link, its distance and metric, and its rule
abbrev pub candidate_json : CandidateLine → Json
candidate_json line =
    object_of
    ((codes "state", string (state_text (is_used_by line.candidate.rule))) ∷ (codes "lsa", lsa_json line.candidate.lsa)
    ∷ (codes "link", option_json number_json line.candidate.link) ∷ rule_fields line.candidate)

-- ---- paths of least cost

-- what a step ends at: a router by its Router ID, or a network by the address of its Designated Router
abbrev pub end_text : Bool → List ℕ
end_text is_network = if is_network then codes "network" else codes "router"

-- the interface, the network between, the metric of the link, and the distance of the end
abbrev pub leading_fields : WayStep → Fields
leading_fields step =
    (codes "out", address_json step.out) ∷ (codes "over", option_json address_json step.over) ∷ (codes "cost", number_json step.cost)
    ∷ (codes "sum", number_json step.sum) ∷ []

abbrev pub step_json : WayStep → Json
step_json step =
    object_of
    ((codes "area", area_json step.area) ∷ (codes "router", router_json step.router) ∷ (codes "kind", string (end_text step.is_network))
    ∷ (codes "to", address_json step.end) ∷ leading_fields step)

-- ---- LSAs

abbrev pub rest_json : Rest → Json
rest_json rest = lsa_json (rest_name rest)

-- ---- the whole

-- the rule of a route
abbrev pub rule_json : Option RouteLineValue → Json
rule_json None = null
rule_json (Some route) = string (kind_rule (route.source).kind)

-- the candidates, the steps on paths of least cost, and the LSAs on which the route rests
abbrev pub list_fields : ExplanationValue → Fields
list_fields e =
    (codes "candidates", array_json candidate_json e.candidates) ∷ (codes "steps", array_json step_json e.ways)
    ∷ (codes "rests", array_json rest_json e.rests) ∷ []

-- why the route of a router to a prefix is what it is
abbrev pub explain_reply : RouterId → Net → ExplanationValue → Fields
explain_reply router net e =
    (codes "router", router_json router) ∷ (codes "prefix", prefix_json net) ∷ (codes "route", option_json route_json e.route)
    ∷ (codes "rule", rule_json e.route) ∷ list_fields e
