use Rattle.std.proofs.Common.{◌∙◌, ap}
use Rattle.std.proofs.lemmas.Result.{IfOk-weaker}
use Rattle.audit_areas.specs.Findings.{places_in_areas}
use Rattle.audit_areas.proofs.finding.places_by_router.Goals as goal

pub returns : goal.returns
returns g c =
    IfOk-weaker c.places_in_areas.result _ _
    (λ places is. is ∙ ap (places_in_areas (g.F.Finding.finds c.args.finding.now)) (c.deref.ensures.value ∙ c.in_ok-areas.ensures))
    c.places_in_areas.ensures
