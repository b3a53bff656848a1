use Rattle.std.proofs.Common.{◌∙◌, ap}
use Rattle.std.proofs.lemmas.Result.{IfOk-weaker}
use Rattle.audit_topology.specs.Parts.{split_in_all}
use Rattle.audit_topology.proofs.split_areas.split_area_places.Goals as goal

pub returns : goal.returns
returns g c =
    IfOk-weaker c.split_in_all.result _ _ (λ places is. is ∙ ap split_in_all (c.deref.ensures.value ∙ c.in_ok-audited_areas.ensures)) c.split_in_all.ensures
