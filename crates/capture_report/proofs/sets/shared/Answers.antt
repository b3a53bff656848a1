use Rattle.std.proofs.lemmas.Result.{IfOk-weaker}
use Rattle.capture_report.proofs.Members.{in_common}
use Rattle.capture_report.proofs.sets.shared.Goals as goal

pub returns : goal.returns
returns g c =
    IfOk-weaker c.among.result _ _
    (λ both h. in_common g.met.T.Ord.total c.args.items.now c.args.others.now c.in_ok-items.items c.in_ok-set_of.field-0 both.items c.in_ok-items.ensures
    c.in_ok-set_of.ensures h)
    c.among.ensures
