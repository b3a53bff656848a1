use Rattle.std.proofs.Common.{sym, ap, subst, ◌∙◌}
use Rattle.std.specs.List.Sorted.{IsStrictlySortedBy}
use Rattle.std.proofs.lemmas.Result.{IfOk-weaker}
use Rattle.capture_report.specs.Sets.{has}
use Rattle.capture_report.proofs.sets.once.Goals as goal

pub returns : goal.returns
returns g c =
    let cmp = g.T.Ord.cmp in
    IfOk-weaker c.in_order.result _ _
    (λ once h. record {
      which = λ item. ap (has cmp item) h ∙ c.in_ok-set.ensures.0 item;
      order = subst (λ items. IsStrictlySortedBy cmp items) (sym h) c.in_ok-set.ensures.1;
    })
    c.in_order.ensures
