use Rattle.std.proofs.lemmas.Result.{IfOk-weaker}
use Rattle.capture_report.proofs.AreaSets.{in_both}
use Rattle.capture_report.proofs.both_kinds.both_reported.Goals as goal

pub returns : goal.returns
returns g c =
    IfOk-weaker c.in_both.result _ _
    (λ both h. in_both c.args.areas.now c.in_ok-stubs.stubs c.in_ok-others.others both.items c.in_ok-stubs.ensures c.in_ok-others.ensures h)
    c.in_both.ensures
