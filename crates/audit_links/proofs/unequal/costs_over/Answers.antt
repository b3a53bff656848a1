use Rattle.std.proofs.Common.{◌∙◌, ap}
use Rattle.std.proofs.lemmas.Result.{IfOk-weaker}
use Rattle.interfaces.specs.FarEnds.{costs_back, far_ends_in}
use Rattle.audit_links.proofs.unequal.costs_over.Goals as goal

pub returns : goal.returns
returns g c =
    IfOk-weaker c.costs_back.result _ _
    (λ costs is. is
    ∙ ap costs_back
    (c.deref.ensures.value ∙ c.in_ok-ends.ensures ∙ λ i. far_ends_in (c.database.ensures i) (c.area.ensures i) c.args.router c.args.own))
    c.costs_back.ensures
