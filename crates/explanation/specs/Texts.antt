-- The lines of `explain`.
use Rattle.std.specs.Prelude.{ℕ, ◌+◌, Bool, if◌then◌else◌, List, [], ◌∷◌, ◌++◌, length, Option, None, Some, codes, decimal}
use Rattle.std.specs.Option.{option_map}
use Rattle.lsa_codec.specs.declared.address.Addr.{Addr}
use Rattle.lsa_codec.specs.Spelling.{address_text}
use Rattle.lsa_names.specs.LsaNames.{name_text}
use Rattle.lsa_names.specs.declared.lsa_name.LsaName.{LsaName}
use Rattle.study_text.specs.Lists.{after_word, lines_of}
use Rattle.study_text.specs.Shown.{Called, shown}
use Rattle.study_words.specs.declared.route_kind.RouteKind.{RouteKind}
use Rattle.study_words.specs.declared.route_kind.RouteKind.TheVariants.{Intra, Inter, External1, External2, Own}
use Rattle.route_lines.specs.RouteLines.{RouteLineValue}
use Rattle.route_lines.specs.RouteTexts.{route_text}
use Rattle.route_candidates.specs.declared.candidate.Candidate.{Candidate}
use Rattle.area_candidates.specs.Rules.{is_used_by, rule_text}
use Rattle.explanation.specs.declared.candidate_line.CandidateLine.{CandidateLine}
use Rattle.explanation.specs.declared.rest.Rest.{Rest}
use Rattle.explanation.specs.declared.way_step.WayStep.{WayStep}

-- ---- the route

-- the rule of a route, by its kind
abbrev pub kind_rule : RouteKind → List ℕ
kind_rule Intra = codes "16.1 intra-area"
kind_rule Inter = codes "16.2 inter-area"
kind_rule External1 = codes "16.4 type 1 external"
kind_rule External2 = codes "16.4 type 2 external"
kind_rule Own = codes "16.4 (2) its own"

-- the kind of a route decides, or that its source is an external prefix of the router itself; with no route, whether there are
-- candidates for one
abbrev pub rule_line : Option RouteLineValue → List CandidateLine → List ℕ
rule_line (Some route) candidates = codes "rule " ++ kind_rule (route.source).kind
rule_line None [] = codes "rule none: no LSA in its database has the prefix"
rule_line None (first ∷ candidates) = codes "rule none"

abbrev pub route_line : Called → Option RouteLineValue → List ℕ
route_line called None = codes "no route"
route_line called (Some route) = codes "route " ++ route_text called route

-- ---- candidates

abbrev pub used_text : Bool → List ℕ
used_text is_used = if is_used then codes "used " else codes "lost "

abbrev pub link_text : Option ℕ → List ℕ
link_text None = []
link_text (Some number) = codes " #" ++ decimal number

abbrev pub distance_text : Option ℕ → List ℕ
distance_text None = []
distance_text (Some d) = codes " distance " ++ decimal d

-- whether it is used, its LSA and its link
abbrev pub source_text : Called → Candidate → List ℕ
source_text called c = used_text (is_used_by c.rule) ++ name_text called c.lsa ++ link_text c.link

-- its distance and its metric, and its rule
abbrev pub judged_text : Candidate → List ℕ
judged_text c = distance_text c.distance ++ (codes " metric " ++ decimal c.metric) ++ codes ": " ++ rule_text c.rule

abbrev pub candidate_line : Called → CandidateLine → List ℕ
candidate_line called line = source_text called line.candidate ++ judged_text line.candidate

-- ---- paths of least cost

abbrev pub end_text : Called → WayStep → List ℕ
end_text called step = if step.is_network then codes "network " ++ address_text step.end.0 else shown called (record { 0 = step.end.0 })

abbrev pub over_text : Option Addr → List ℕ
over_text over = after_word (codes " over ") (option_map (λ a. address_text a.0) over)

-- the area, the router and the end of a step
abbrev pub ends_text : Called → WayStep → List ℕ
ends_text called step =
    codes "way area " ++ address_text step.area.0 ++ codes " " ++ shown called step.router ++ codes " -> " ++ end_text called step

-- the interface, and the network between
abbrev pub out_text : WayStep → List ℕ
out_text step = codes " out " ++ address_text step.out.0 ++ over_text step.over

-- the ends, the interface, the metric of the link, and the distance of the end
abbrev pub way_line : Called → WayStep → List ℕ
way_line called step = ends_text called step ++ out_text step ++ (codes " cost " ++ decimal step.cost) ++ (codes " sum " ++ decimal step.sum)

-- ---- LSAs

abbrev pub rest_name : Rest → LsaName
rest_name rest = record { area = if rest.is_as_wide then None else Some rest.area; key = rest.key; net = rest.net }

abbrev pub rest_line : Called → Rest → List ℕ
rest_line called rest = codes "rests on " ++ name_text called (rest_name rest)

-- ---- the whole

pub record ExplanationValue : Type 0 where
  pub route : Option RouteLineValue
  pub candidates : List CandidateLine
  pub ways : List WayStep
  pub rests : List Rest

-- how many lines it has: those of the route and of its rule, and one for each candidate, step and LSA
abbrev pub lines_in : ExplanationValue → ℕ
lines_in e = length e.candidates + length e.ways + (2 + length e.rests)

-- the lines of the route and of its rule
abbrev pub head_text : Called → Option RouteLineValue → List CandidateLine → List ℕ
head_text called route candidates = (route_line called route ++ codes "\n") ++ (rule_line route candidates ++ codes "\n")

abbrev pub explanation_text : Called → ExplanationValue → List ℕ
explanation_text called e =
    head_text called e.route e.candidates ++ lines_of (candidate_line called) e.candidates ++ lines_of (way_line called) e.ways
    ++ lines_of (rest_line called) e.rests
