use Rattle.std.proofs.Common.{sym, ap, ◌∙◌, subst}
use Rattle.std.proofs.lemmas.Result.{err_from_is_err_and}
use Rattle.lsa_codec.specs.Originating.{with_metric}
use Rattle.edit_script.specs.declared.edit.Edit.TheVariants.{Summary}
use Rattle.edit_history.specs.declared.fault.EditFault.{EditFault}
use Rattle.edit_history.specs.Fault.{fault_of}
use Rattle.edit_history.specs.Applied.{IsRefused}
use Rattle.lsdb.specs.Slots.{lists_of}
use Rattle.edit_history.proofs.NamedLsas.{no_area_refused}
use Rattle.edit_history.proofs.PrefixEdits.{summary_row, summary_none, has_summary_metric, summary_memory, summary_planned}
use Rattle.edit_history.proofs.prefixes.plan_summary.Goals as goal

pub returns-in_err-area_section : goal.returns-in_err-area_section
returns-in_err-area_section g c =
    let gave = err_from_is_err_and c.from_residual.result c.from_residual.ensures.1 in
    rw (gave.1, gave.2) (no_area_refused c.args.database.now (Summary c.args.area c.args.router c.args.prefix c.args.metric) c.args.area _ _
    (summary_row (lists_of c.args.database.now) c.args.area c.args.router c.args.prefix c.args.metric) c.in_err-area_section.ensures.refused c.in_err-area_section.ensures.absent)

pub returns-in_default : goal.returns-in_default
returns-in_default g c =
    summary_none c.args.database.now c.args.area c.args.router c.args.prefix c.args.metric
    c.in_ok-area_section.field-0 c.in_ok-area_section.ensures.found c.in_default.ensures

pub with_metric-requires-clause-kind : goal.with_metric-requires-clause-kind
with_metric-requires-clause-kind g c =
    has_summary_metric c.args.database.now c.args.area c.args.router c.args.prefix c.in-Some.slot c.in-Some.lsa.now c.in-Some.ensures

pub returns-in_err-new : goal.returns-in_err-new
returns-in_err-new g c =
    let gave = err_from_is_err_and c.from_residual-in_err-new.result c.from_residual-in_err-new.ensures.1 in
    rw (gave.1, gave.2) (subst (λ (f : EditFault). IsRefused c.args.database.now (Summary c.args.area c.args.router c.args.prefix c.args.metric) f)
    (sym (ap fault_of c.in_err-new.ensures.fault))
    (summary_memory c.args.database.now c.args.area c.args.router c.args.prefix c.args.metric c.in-Some.slot c.in-Some.lsa.now c.in-Some.ensures))

pub returns-in_err-one_swap : goal.returns-in_err-one_swap
returns-in_err-one_swap g c =
    let gave = err_from_is_err_and c.from_residual-in_err-one_swap.result c.from_residual-in_err-one_swap.ensures.1 in
    rw (gave.1, gave.2)
    (summary_memory c.args.database.now c.args.area c.args.router c.args.prefix c.args.metric c.in-Some.slot c.in-Some.lsa.now c.in-Some.ensures)

pub returns : goal.returns
returns g c =
    summary_planned c.args.database.now c.args.area c.args.router c.args.prefix c.args.metric c.in-Some.slot c.in-Some.lsa.now
    c.in_ok-new.new c.new-swap.result c.in_ok-one_swap.field-0.items c.assert_valid.ensures c.in-Some.ensures
    (c.in_ok-new.ensures.made ∙ ap (λ m. with_metric m c.in-Some.lsa.now) c.value.ensures.value)
    c.in_ok-new.ensures.keeps c.new-swap.ensures c.in_ok-one_swap.ensures
