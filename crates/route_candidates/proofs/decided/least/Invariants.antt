use Rattle.std.proofs.Common.{◌≡◌, take}
use Rattle.area_graph.specs.Least.{least}
use Rattle.best_ways.specs.Order.{rank_cmp}
use Rattle.route_candidates.proofs.decided.least.Given as goal

-- the least so far
abbrev pub invariant-loop-rank : goal.invariant-loop-rank
invariant-loop-rank l = l.best ≡ least rank_cmp (take l.rank-index l.ranks)
