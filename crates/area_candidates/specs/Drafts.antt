-- Candidates of a route before they are compared with others (RFC 2328, 16.1 to 16.4).
use Rattle.std.specs.Prelude.{ℕ, Option, None, Some}
use Rattle.best_ways.specs.declared.rank.PathType.{PathType}
use Rattle.best_ways.specs.declared.rank.Rank.{Rank}
use Rattle.area_candidates.specs.declared.draft.Draft.{Draft}
use Rattle.area_candidates.specs.declared.draft.Judged.{Judged}
use Rattle.area_candidates.specs.declared.draft.Standing.{Standing}
use Rattle.area_candidates.specs.declared.draft.Standing.TheVariants.{Out, Left}
use Rattle.area_candidates.specs.declared.rule.Rule.{Rule}

-- taken out before its distance is known
abbrev pub out : Rule → Judged
out r = record { distance = None; standing = Out r }

-- taken out, at a distance
abbrev pub out_at : ℕ → Rule → Judged
out_at d r = record { distance = Some d; standing = Out r }

-- taken out by no rule that looks at it alone
abbrev pub left : ℕ → Rank → Judged
left d rank = record { distance = Some d; standing = Left rank }

-- what a path inside the AS is compared by
abbrev pub costing : PathType → ℕ → Rank
costing path cost = record { path = path; cost2 = 0; class = 0; cost = cost }

abbrev pub rank_of : Standing → Option Rank
rank_of (Out r) = None
rank_of (Left rank) = Some rank

-- what a candidate is compared by, if no rule takes it out
abbrev pub left_rank : Draft → Option Rank
left_rank draft = rank_of draft.judged.standing
