use Rattle.std.proofs.lemmas.List.Sorted.{IsPermutation-trans}
use Rattle.std.proofs.lemmas.Result.{IfOk-weaker}
use Rattle.best_ways.proofs.RankOrders.{by_keys}
use Rattle.best_ways.proofs.best.in_order.Goals as goal

pub returns-clause-same : goal.returns-clause-same
returns-clause-same g c =
    IfOk-weaker c.sorted.result _ _ (λ x h. IsPermutation-trans _ _ _ c.in_ok-ordered.ensures.same h) c.sorted.ensures.same

pub returns-clause-order : goal.returns-clause-order
returns-clause-order g c = IfOk-weaker c.sorted.result _ _ (λ x h. by_keys g.met.K.Ord.total x.items h) c.sorted.ensures.order
