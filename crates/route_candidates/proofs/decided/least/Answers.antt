use Rattle.std.proofs.Common.{◌≡◌, ℕ, ◌+◌, ◌<◌, ◌∙◌, List, Option, Some, length, get_or, take, sym, ap}
use Rattle.std.specs.Cmp.{IsTotalOrder}
use Rattle.std.proofs.lemmas.List.{take_more}
use Rattle.area_graph.specs.Least.{later, least}
use Rattle.best_ways.proofs.LeastLemmas.{least_push}
use Rattle.best_ways.specs.Order.{rank_cmp}
use Rattle.best_ways.specs.declared.rank.Rank.{Rank}
use Rattle.route_candidates.proofs.decided.least.Goals as goal

-- the least with one rank more
one_more : IsTotalOrder rank_cmp → (ranks : List Rank) (i : ℕ) (d r : Rank) (best : Option Rank) → i < length ranks
    → r ≡ later rank_cmp best (get_or ranks i d) → best ≡ least rank_cmp (take i ranks) → Some r ≡ least rank_cmp (take (i + 1) ranks)
one_more total ranks i d r best below is was =
    ap (λ (x : Rank). Some x) is
    ∙ ap (λ (o : Option Rank). Some (later rank_cmp o (get_or ranks i d))) was
    ∙ sym (least_push total (take i ranks) (get_or ranks i d))
    ∙ ap (least rank_cmp) (sym (take_more ranks i d below))

pub loop-rank-preserved : goal.loop-rank-preserved
loop-rank-preserved c =
    one_more c.rank_order.ensures.total c.args.ranks.now c.loop-rank.rank-index _ c.lesser.result c.loop-rank.best c.loop-rank-test.true
    c.lesser.ensures c.loop-rank.invariant
