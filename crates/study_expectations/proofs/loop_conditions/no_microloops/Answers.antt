use Rattle.std.proofs.Common.{◌≡◌, ℕ, IfOk, subst}
use Rattle.std.specs.Prelude.{option_map}
use Rattle.std.proofs.lemmas.Result.{IfOk-weaker}
use Rattle.network_names.specs.Names.{called}
use Rattle.edit_history.specs.Session.{state}
use Rattle.branches.specs.Branches.{before_last, sessions_of}
use Rattle.study_expectations.specs.LoopVerdicts.{IsMicroloopsVerdict}
use Rattle.study_expectations.specs.steps.Microloops.{no_microloops_by}
use Rattle.study_expectations.specs.steps.Verdicts.{verdict_of}
use Rattle.study_expectations.proofs.Microloops.{found}
use Rattle.study_expectations.proofs.loop_conditions.no_microloops.Goals as goal

pub returns-clause-verdict : goal.returns-clause-verdict
returns-clause-verdict g c =
    let called = called c.args.names.now in
    let s = sessions_of c.args.branches.now c.args.branch in
    let count = c.unwrap_or.result in
    let loops = option_map (λ found. found.items) c.in_ok-loops.loops in
    subst (λ (n : ℕ). IfOk c.no_microloops_by.result (λ v. IsMicroloopsVerdict called (state s) (before_last n s) (verdict_of v)))
    c.unwrap_or.ensures
    (IfOk-weaker c.no_microloops_by.result (λ v. verdict_of v ≡ no_microloops_by called loops)
    (λ v. IsMicroloopsVerdict called (state s) (before_last count s) (verdict_of v))
    (λ v is. found called (state s) (before_last count s) loops (verdict_of v) c.in_ok-loops.ensures.loops is)
    c.no_microloops_by.ensures)
