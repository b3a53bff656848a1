use Rattle.std.proofs.Common.{◌∙◌, ap}
use Rattle.std.proofs.lemmas.Result.{IfOk-weaker}
use Rattle.audit_links.specs.LinkFindings.{one_way_in_all}
use Rattle.audit_links.proofs.one_way.one_way_link_places.Goals as goal

pub returns : goal.returns
returns g c =
    IfOk-weaker c.one_way_in_all.result _ _ (λ places is. is ∙ ap one_way_in_all (c.deref.ensures.value ∙ c.in_ok-areas.ensures)) c.one_way_in_all.ensures
