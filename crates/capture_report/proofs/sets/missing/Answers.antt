use Rattle.std.proofs.lemmas.Result.{IfOk-weaker}
use Rattle.capture_report.proofs.Members.{left_over}
use Rattle.capture_report.proofs.sets.missing.Goals as goal

pub returns : goal.returns
returns g c =
    IfOk-weaker c.without.result _ _
    (λ left h. left_over g.met.T.Ord.total c.args.named.now c.args.described.now c.in_ok-named.named c.in_ok-described.described left.items
    c.in_ok-named.ensures c.in_ok-described.ensures h)
    c.without.ensures
