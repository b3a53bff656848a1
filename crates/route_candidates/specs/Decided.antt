-- Candidates of one section of RFC 2328, 16.1, 16.2 or 16.4, compared with each other: the rule of each.
use Rattle.std.specs.Prelude.{◌==◌, if◌then◌else◌, List, Bool, Option, None, Some, is_some, map}
use Rattle.std.specs.List.{filter_map, list_any}
use Rattle.area_graph.specs.Least.{least}
use Rattle.best_ways.specs.Order.{path_number, rank_cmp}
use Rattle.best_ways.specs.declared.rank.PathType.{PathType}
use Rattle.best_ways.specs.declared.rank.PathType.TheVariants.{Intra, Inter, Ext1, Ext2}
use Rattle.best_ways.specs.declared.rank.Rank.{Rank}
use Rattle.area_candidates.specs.declared.draft.Draft.{Draft}
use Rattle.area_candidates.specs.declared.draft.Standing.{Standing}
use Rattle.area_candidates.specs.declared.draft.Standing.TheVariants.{Out, Left}
use Rattle.area_candidates.specs.declared.rule.Rule.{Rule}
use Rattle.area_candidates.specs.declared.rule.Rule.TheVariants as rule
use Rattle.area_candidates.specs.Drafts.{left_rank}
use Rattle.area_candidates.specs.Rules.{is_used_by}
use Rattle.route_candidates.specs.declared.candidate.Candidate.{Candidate}

-- the least of what is left
abbrev pub best : List Draft → Option Rank
best drafts = least rank_cmp (filter_map left_rank drafts)

-- whether one is left, so that the best are used
abbrev pub has_left : List Draft → Bool
has_left drafts = list_any (λ draft. is_some (left_rank draft)) drafts

-- the rule that takes out what costs more, for paths of this type
abbrev pub costs_more : PathType → Rule
costs_more Intra = rule.IntraCostsMore
costs_more Inter = rule.InterCostsMore
costs_more Ext1 = rule.ExternalCostsMore
costs_more Ext2 = rule.ExternalCostsMore

-- the rule by which the best are used
abbrev pub is_best : PathType → Rule
is_best Intra = rule.IntraLeastCost
is_best Inter = rule.InterLeastCost
is_best Ext1 = rule.ExternalPreferred
is_best Ext2 = rule.ExternalPreferred

-- the rule of what is left beside the best: the first of type, type 2 metric, class and cost in which it is not the best (16.4 (6))
abbrev pub rule_beside : Rank → Rank → Rule
rule_beside best rank =
    if path_number best.path == path_number rank.path then
    (if best.cost2 == rank.cost2 then
    (if best.class == rank.class then
    (if best.cost == rank.cost then is_best rank.path else costs_more rank.path)
    else rule.OtherClass)
    else rule.GreaterMetric)
    else rule.Type1Preferred

abbrev pub rule_by : Option Rank → Rank → Rule
rule_by None rank = is_best rank.path
rule_by (Some best) rank = rule_beside best rank

-- the rule of a candidate, where this is the best of all
abbrev pub rule_of : Option Rank → Standing → Rule
rule_of best (Out r) = r
rule_of best (Left rank) = rule_by best rank

abbrev pub decided_by : Option Rank → Draft → Candidate
decided_by best draft = record {
  lsa = draft.lsa;
  link = draft.link;
  distance = draft.judged.distance;
  metric = draft.metric;
  rule = rule_of best draft.judged.standing;
}

-- all candidates, each with its rule
abbrev pub decided : List Draft → List Candidate
decided drafts = map (decided_by (best drafts)) drafts

-- whether a candidate is used
abbrev pub is_used : Candidate → Bool
is_used c = is_used_by c.rule
