use Rattle.std.proofs.Common.{◌++◌, List, refl, sym, ap, ◌∙◌, subst}
use Rattle.std.proofs.lemmas.Result.{err_from_is_err_and}
use Rattle.lsdb.specs.Lists.{Lists}
use Rattle.lsdb.specs.Slots.{Slots, lists_of}
use Rattle.summary_metrics.specs.SummaryMetrics.{AreOf}
use Rattle.edit_script.specs.declared.edit.Edit.TheVariants.{Refresh}
use Rattle.edit_history.specs.Exchange.{SwapData, done_slots}
use Rattle.edit_history.specs.Applied.{Planned}
use Rattle.edit_history.proofs.RefreshPasses.{first_leads}
use Rattle.edit_history.proofs.Refreshes.{first_can, refresh_planned, refresh_memory, written_back}
use Rattle.edit_history.proofs.refreshing.plan_refresh.Goals as goal

pub returns-in_err-swaps-clause-plan : goal.returns-in_err-swaps-clause-plan
returns-in_err-swaps-clause-plan g c =
    let gave = err_from_is_err_and c.from_residual.result c.from_residual.ensures.1 in
    rw (gave.1, gave.2) (refresh_memory c.args.database.now c.in_err-swaps.field-0.0 c.in_err-swaps.ensures.memory)

pub metric_swaps-requires : goal.metric_swaps-requires
metric_swaps-requires g c = c.new-known.ensures (lists_of c.args.database.now)

pub other_swaps-requires-clause-known : goal.other_swaps-requires-clause-known
other_swaps-requires-clause-known g c =
    let leads = first_leads c.args.database.now c.deref_mut.result.now c.assert_valid.ensures (c.deref_mut.ensures.value ∙ c.in_ok-swaps.ensures.swaps) in
    subst (λ (db : Lists). AreOf db c.invalidate_backbone.new.self) (sym leads)
    (c.invalidate_backbone.ensures (lists_of c.args.database.now) c.assert_valid.ensures c.in_ok-swaps.ensures.known)

pub other_swaps-requires-clause-can : goal.other_swaps-requires-clause-can
other_swaps-requires-clause-can g c =
    first_can c.args.database.now c.deref_mut.result.now c.assert_valid.ensures (c.deref_mut.ensures.value ∙ c.in_ok-swaps.ensures.swaps)

pub returns-in_err-others-clause-plan : goal.returns-in_err-others-clause-plan
returns-in_err-others-clause-plan g c =
    let gave = err_from_is_err_and c.from_residual-in_err-others.result c.from_residual-in_err-others.ensures.1 in
    rw (gave.1, gave.2) (refresh_memory c.args.database.now c.in_err-others.field-0.0 c.in_err-others.ensures.memory)

pub returns-in_err-append-clause-plan : goal.returns-in_err-append-clause-plan
returns-in_err-append-clause-plan g c =
    let gave = err_from_is_err_and c.from_residual-in_err-append.result c.from_residual-in_err-append.ensures.1 in
    rw (gave.1, gave.2) (refresh_memory c.args.database.now _ refl)

pub returns-clause-plan : goal.returns-clause-plan
returns-clause-plan g c =
    let one_is = c.deref_mut.ensures.value ∙ c.in_ok-swaps.ensures.swaps in
    subst (λ (e : Slots). Planned c.args.database.now e Refresh c.append.new.self.items) (sym c.other_swaps.ensures.database)
    (refresh_planned c.args.database.now (done_slots c.args.database.now c.deref_mut.result.now) c.deref_mut.result.now c.in_ok-others.others.items
    c.append.new.self.items c.assert_valid.ensures one_is refl c.in_ok-others.ensures.swaps
    (c.in_ok-append.ensures.items ∙ ap (λ (ss : List SwapData). ss ++ c.in_ok-others.others.items)
    (written_back c.deref_mut.result.now c.other_swaps.new.first c.in_ok-swaps.swaps.items _ (sym c.deref_mut.ensures.len) c.other_swaps.ensures.first)))
