use Rattle.std.proofs.Common.{◌≡◌, ap, rules}
use Rattle.std.specs.Ordering.{is_lt}
use Rattle.std.proofs.lemmas.List.Sorted.{answers_always, ranks_by}
use Rattle.best_ways.specs.steps.Merge.{key_cmp}
use Rattle.best_ways.proofs.best.by_destination.Goals as goal

pub returns-clause-order : goal.returns-clause-order
returns-clause-order g c =
    let R = g.K.Ord.cmp in
    c.in_ok-sort_by.ensures.sorted (λ x y. is_lt (key_cmp R x y)) (ranks_by g.met.K.Ord.total (λ x. x.key))
    (answers_always _ _ _ (λ q a r k called. let e : r ≡ R a.0.now.key a.1.0.now.key = search rules in ap is_lt e))
