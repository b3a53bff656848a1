use Rattle.std.proofs.Common.{◌∙◌}
use Rattle.std.proofs.lemmas.Result.{IfOk-weaker}
use Rattle.capture_report.proofs.NewerHeaders.{are_newer_derived}
use Rattle.capture_report.proofs.newer.newer_lsas.Goals as goal

pub returns : goal.returns
returns g c =
    IfOk-weaker c.once.result _ _
    (λ left once. are_newer_derived c.args.files.now c.in_ok-newest.newest c.deref.result.now left.items c.in_ok-newest.ensures
    (c.deref.ensures.value ∙ c.in_ok-lsas.ensures) once)
    c.once.ensures
