-- How deep explanations nest.
use Rattle.std.proofs.Common.{ℕ, ◌+◌, ◌<◌, ◌≤◌, List, [], ◌∷◌, Option, None, Some, arith}
use Rattle.json.specs.Json.{max_depth}
use Rattle.json.specs.Tree.{depth}
use Rattle.lsa_codec.specs.Prefix.{Net}
use Rattle.lsa_codec.specs.declared.address.Addr.{Addr}
use Rattle.lsa_codec.specs.declared.address.RouterId.{RouterId}
use Rattle.route_lines.specs.RouteLines.{RouteLineValue}
use Rattle.explanation.specs.Texts.{ExplanationValue, rest_name}
use Rattle.explanation.specs.declared.candidate_line.CandidateLine.{CandidateLine}
use Rattle.explanation.specs.declared.rest.Rest.{Rest}
use Rattle.explanation.specs.declared.way_step.WayStep.{WayStep}
use Rattle.study_json.specs.Leaves.{address_json, number_json, option_json}
use Rattle.study_json.specs.Routes.{route_json}
use Rattle.study_documents.specs.Documents.{fields_depth}
use Rattle.study_documents.specs.Replies.{routes_reply}
use Rattle.study_documents.proofs.NestingLemmas.{array_shallow, option_shallow}
use Rattle.finding_json.proofs.NestingLemmas.{lsa_shallow}
use Rattle.explanation_json.specs.Explanations.{candidate_json, explain_reply, rest_json, rule_json, step_json}

candidate_shallow : (line : CandidateLine) → depth (candidate_json line) ≤ 2
candidate_shallow line =
    omega (
      arith,
      lsa_shallow line.candidate.lsa,
      option_shallow number_json 0 (λ n. omega arith) line.candidate.link,
      option_shallow number_json 0 (λ n. omega arith) line.candidate.distance,
    )

step_shallow : (step : WayStep) → depth (step_json step) ≤ 1
step_shallow step = omega (arith, option_shallow address_json 0 (λ a. omega arith) step.over)

rest_shallow : (rest : Rest) → depth (rest_json rest) ≤ 1
rest_shallow rest = lsa_shallow (rest_name rest)

rule_shallow : (route : Option RouteLineValue) → depth (rule_json route) ≤ 0
rule_shallow None = omega arith
rule_shallow (Some route) = omega arith

-- ---- by what is known of the reply to `routes`

abbrev AreLittle : Type 0
AreLittle = (router : RouterId) (address : Option Addr) (routes : List RouteLineValue) → fields_depth (routes_reply router address routes) < max_depth

module _ (little : AreLittle) where
  route_little : (router : RouterId) (route : Option RouteLineValue) → depth (option_json route_json route) + 1 < max_depth
  route_little router None = omega arith
  route_little router (Some route) = omega (arith, little router None (route ∷ []))

  pub explanation_shallow : (router : RouterId) (net : Net) (e : ExplanationValue) → fields_depth (explain_reply router net e) < max_depth
  explanation_shallow router net e =
      omega (
        arith,
        route_little router e.route,
        rule_shallow e.route,
        array_shallow candidate_json 2 candidate_shallow e.candidates,
        array_shallow step_json 1 step_shallow e.ways,
        array_shallow rest_json 1 rest_shallow e.rests,
      )
