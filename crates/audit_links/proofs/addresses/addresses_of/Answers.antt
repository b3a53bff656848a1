use Rattle.std.proofs.Common.{◌∙◌, ap}
use Rattle.std.proofs.lemmas.Result.{IfOk-weaker}
use Rattle.audit_links.specs.Addresses.{addresses_over}
use Rattle.audit_links.proofs.addresses.addresses_of.Goals as goal

pub returns : goal.returns
returns g c =
    IfOk-weaker c.addresses_over.result _ _
    (λ found is. is ∙ ap (addresses_over c.args.router) (c.deref.ensures.value ∙ c.in_ok-links.ensures))
    c.addresses_over.ensures
