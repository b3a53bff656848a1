use Rattle.std.proofs.Common.{sym, ap, ◌∙◌, subst}
use Rattle.std.proofs.lemmas.Result.{IfOk-weaker}
use Rattle.lsdb.specs.Slots.{Slots, lists_of}
use Rattle.summary_metrics.specs.SummaryMetrics.{AreOf}
use Rattle.summary_metrics.specs.Refreshed.{is_not_backbone}
use Rattle.edit_history.specs.Exchange.{CanUndo, undone_slots, undone_swaps}
use Rattle.edit_history.specs.Refreshing.{pass_fates}
use Rattle.edit_history.specs.steps.Plans.{swaps_from}
use Rattle.edit_history.proofs.Exchanged.{undo_done}
use Rattle.edit_history.proofs.refreshing.other_swaps.Goals as goal

pub undo_swaps-requires : goal.undo_swaps-requires
undo_swaps-requires g c =
    let again = undo_done c.args.database.now c.args.first.now c.assert_valid.ensures c.requires.can in
    subst (λ (d : Slots). CanUndo d c.do_swaps.new.swaps) (sym c.do_swaps.ensures.database)
    (subst (CanUndo _) (sym c.do_swaps.ensures.swaps) again.can)

pub returns-clause-swaps : goal.returns-clause-swaps
returns-clause-swaps g c =
    IfOk-weaker c.metric_swaps-others.result _ _ (λ v is. is ∙ ap (λ (d : Slots). swaps_from (pass_fates is_not_backbone (lists_of d)) 0 d)
    c.do_swaps.ensures.database) c.metric_swaps-others.ensures.swaps

pub returns-clause-database : goal.returns-clause-database
returns-clause-database g c =
    let again = undo_done c.args.database.now c.args.first.now c.assert_valid.ensures c.requires.can in
    c.undo_swaps.ensures.database ∙ (λ i. undone_slots (c.do_swaps.ensures.database i) (c.do_swaps.ensures.swaps i)) ∙ again.slots

pub returns-clause-first : goal.returns-clause-first
returns-clause-first g c =
    let again = undo_done c.args.database.now c.args.first.now c.assert_valid.ensures c.requires.can in
    c.undo_swaps.ensures.swaps ∙ (λ i. undone_swaps (c.do_swaps.ensures.database i) (c.do_swaps.ensures.swaps i)) ∙ again.swaps

pub metric_swaps-others-requires : goal.metric_swaps-others-requires
metric_swaps-others-requires g c =
    subst (λ (d : Slots). AreOf (lists_of d) c.args.known.now) (sym c.do_swaps.ensures.database) c.requires.known
