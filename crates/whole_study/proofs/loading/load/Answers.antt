use Rattle.whole_study.specs.steps.Texts.{bytes_in, given_in}
use Rattle.whole_study.proofs.Begun.{baseline_accepted, baseline_refused, begins_of, names_refused, ok_of, passed_up}
use Rattle.whole_study.proofs.loading.load.Goals as goal

pub returns-in_err-baseline-clause-end : goal.returns-in_err-baseline-clause-end
returns-in_err-baseline-clause-end g c =
    passed_up c.from_residual-in_err-baseline.result c.in_err-baseline.field-0.0 _ c.from_residual-in_err-baseline.ensures.1
    (baseline_refused (given_in c.args.texts.now) c.in_err-baseline.field-0.0
    (ok_of _ _ (rw c.deref.ensures.value at c.in_ok-planner.ensures.opened)) c.in_err-baseline.ensures.end)

pub returns-in_err-baseline-clause-early : goal.returns-in_err-baseline-clause-early
returns-in_err-baseline-clause-early g c =
    passed_up c.from_residual-in_err-baseline.result c.in_err-baseline.field-0.0 _ c.from_residual-in_err-baseline.ensures.1
    c.in_err-baseline.ensures.early

pub returns-in_err-names-clause-end : goal.returns-in_err-names-clause-end
returns-in_err-names-clause-end g c =
    passed_up c.from_residual-in_err-names.result c.in_err-names.field-0.0 _ c.from_residual-in_err-names.ensures.1
    (names_refused (given_in c.args.texts.now) c.names_text.result.now c.in_err-names.field-0.0 c.names_text.ensures
    (ok_of _ _ (rw c.deref.ensures.value at c.in_ok-planner.ensures.opened))
    (baseline_accepted c.in_ok-planner.planner.session (bytes_in c.args.texts.now.baseline) _ c.in_ok-baseline.ensures.baseline)
    c.in_err-names.ensures.end)

pub returns-in_err-names-clause-early : goal.returns-in_err-names-clause-early
returns-in_err-names-clause-early g c =
    passed_up c.from_residual-in_err-names.result c.in_err-names.field-0.0 _ c.from_residual-in_err-names.ensures.1 c.in_err-names.ensures.early

pub returns-clause-begins : goal.returns-clause-begins
returns-clause-begins g c =
    begins_of c.args.manner (given_in c.args.texts.now) c.in_ok-planner.planner.session _ c.names_text.result.now _ _ _
    (rw c.deref.ensures.value at c.in_ok-planner.ensures.opened) c.in_ok-baseline.ensures.baseline c.names_text.ensures c.in_ok-names.ensures.taken
    (rw c.baseline_of.ensures.kept at c.resume-branches.ensures) c.new.ensures
