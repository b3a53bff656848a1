use Rattle.std.proofs.Common.{List, ap, sym, subst, ◌∙◌}
use Rattle.std.specs.List.Sorted.{IsStrictlySortedBy}
use Rattle.std.specs.Map.{keys_of}
use Rattle.std.proofs.lemmas.Result.{IfOk-weaker}
use Rattle.best_ways.specs.Best.{ways_of}
use Rattle.best_ways.specs.Values.{WayValue}
use Rattle.best_ways.proofs.Merging.{sorted_ways}
use Rattle.best_ways.proofs.Reordered.{reordered}
use Rattle.best_ways.proofs.best.BestWays.into_list.Goals as goal

pub returns-clause-ways : goal.returns-clause-ways
returns-clause-ways g c =
    let R = g.K.Ord.cmp in
    IfOk-weaker c.ways_in_order.result _ _
    (λ ways is cs at. is ∙ ap (ways_of R) c.deref.ensures.value
    ∙ reordered g.met.K.Ord.total c.requires c.args.self c.in_ok-into_ordered.field-0.items c.in_ok-into_ordered.ensures.same
    ∙ ap (ways_of R) at) c.ways_in_order.ensures

pub returns-clause-sorted : goal.returns-clause-sorted
returns-clause-sorted g c =
    let R = g.K.Ord.cmp in
    IfOk-weaker c.ways_in_order.result _ _
    (λ ways is. subst (λ (es : List (g.row.K.Denot × WayValue)). IsStrictlySortedBy R (keys_of es)) (sym is)
    (sorted_ways g.met.K.Ord.total c.requires c.deref.result.now)) c.ways_in_order.ensures
