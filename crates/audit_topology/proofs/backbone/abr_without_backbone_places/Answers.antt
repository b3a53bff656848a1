use Rattle.std.proofs.Common.{◌∙◌, map, ap}
use Rattle.std.specs.Prelude.{filter}
use Rattle.std.proofs.lemmas.Result.{IfOk-weaker}
use Rattle.audit_places.specs.Places.{at_router}
use Rattle.audit_topology.specs.Backbone.{is_off_backbone}
use Rattle.audit_topology.proofs.backbone.abr_without_backbone_places.Goals as goal

pub returns : goal.returns
returns g c =
    let areas = c.deref.ensures.value ∙ c.in_ok-areas.ensures in
    let routers = c.deref-2.ensures.value ∙ c.in_ok-attached.ensures in
    let found = c.deref-3.ensures.value ∙ c.in_ok-found.ensures ∙ λ i. filter (is_off_backbone (areas i)) (routers i) in
    IfOk-weaker c.places_of_routers.result _ _ (λ places is. is ∙ ap (map (λ router. at_router router)) found) c.places_of_routers.ensures
