use Rattle.std.proofs.Common.{◌≡◌, ap, rules}
use Rattle.std.specs.Ordering.{is_lt}
use Rattle.std.proofs.lemmas.List.Sorted.{answers_always, ranks_by}
use Rattle.best_ways.specs.steps.Merge.{contender_cmp}
use Rattle.best_ways.proofs.RankOrders.{contender_total}
use Rattle.best_ways.proofs.best.sorted.Goals as goal

pub returns-clause-order : goal.returns-clause-order
returns-clause-order g c =
    let R = g.K.Ord.cmp in
    c.in_ok-sort_by.ensures.sorted (λ x y. is_lt (contender_cmp R x y)) (ranks_by (contender_total g.met.K.Ord.total) (λ x. x))
    (answers_always _ _ _ (λ q a r k called. let e : r ≡ contender_cmp R a.0.now a.1.0.now = search rules in ap is_lt e))
