-- The rules of RFC 2328 by which candidates for a route are taken out, and those by which they are used.
use Rattle.std.specs.Prelude.{ℕ, Bool, true, false, List, codes}
use Rattle.area_candidates.specs.declared.rule.Rule.{Rule}
use Rattle.area_candidates.specs.declared.rule.Rule.TheVariants as rule

-- the section and the rule in words
abbrev pub rule_text : Rule → List ℕ
rule_text rule.AnotherLsa = codes "16.1 another LSA of the network is used"
rule_text rule.VertexMaxAge = codes "16.1 MaxAge"
rule_text rule.VertexNotReached = codes "16.1 not reached"
rule_text rule.AnotherNetwork = codes "16.1 another network of the prefix is used"
rule_text rule.IntraCostsMore = codes "16.1 costs more"
rule_text rule.IntraLeastCost = codes "16.1 least cost"
rule_text rule.AreaNotExamined = codes "16.2 area not examined"
rule_text rule.SummaryMaxAge = codes "16.2 (1) MaxAge"
rule_text rule.SummaryInfinity = codes "16.2 (1) LSInfinity"
rule_text rule.SummaryItsOwn = codes "16.2 (2) its own"
rule_text rule.BorderNotReached = codes "16.2 (4) originator not reached"
rule_text rule.BorderWithoutBitB = codes "16.2 (4) originator without bit B"
rule_text rule.IntraPreferred = codes "16.2 (6) intra-area preferred"
rule_text rule.InterCostsMore = codes "16.2 (7) costs more"
rule_text rule.InterLeastCost = codes "16.2 (5) least cost"
rule_text rule.StubAreasAlone = codes "3.6 stub areas alone"
rule_text rule.ExternalMaxAge = codes "16.4 (1) MaxAge"
rule_text rule.ExternalInfinity = codes "16.4 (1) LSInfinity"
rule_text rule.ExternalItsOwn = codes "16.4 (2) its own"
rule_text rule.BoundaryNotReached = codes "16.4 (3) originator not reached"
rule_text rule.ForwardNotReached = codes "16.4 (3) forwarding address not reached"
rule_text rule.InsidePreferred = codes "16.4 (6) (a) inside the AS preferred"
rule_text rule.Type1Preferred = codes "16.4 (6) (b) type 1 preferred"
rule_text rule.GreaterMetric = codes "16.4 (6) (b) greater metric"
rule_text rule.OtherClass = codes "16.4 (6) (c) 16.4.1"
rule_text rule.ExternalCostsMore = codes "16.4 (6) (d) costs more"
rule_text rule.ExternalPreferred = codes "16.4 (6) preferred"

-- the rules by which candidates are used
abbrev pub is_used_by : Rule → Bool
is_used_by rule.IntraLeastCost = true
is_used_by rule.InterLeastCost = true
is_used_by rule.ExternalPreferred = true
is_used_by _ = false
