use Rattle.std.proofs.Common.{◌∙◌, map, ap}
use Rattle.std.proofs.lemmas.Result.{IfOk-weaker}
use Rattle.audit_areas.specs.Groups.{several}
use Rattle.audit_topology.specs.Networks.{networks, place_of_prefix, same_prefix}
use Rattle.audit_topology.proofs.Viewed.{map-map}
use Rattle.audit_topology.proofs.networks.several_networks_places.Goals as goal

pub returns : goal.returns
returns g c =
    let found = c.in_ok-found.ensures ∙ ap networks (c.deref.ensures.value ∙ c.in_ok-areas.ensures) in
    IfOk-weaker c.places_of_prefixes.result _ _
    (λ places is. is
    ∙ ap (map (λ p. place_of_prefix (p.0, p.1.items))) c.deref-3.ensures.value
    ∙ map-map place_of_prefix (λ p. (p.0, p.1.items)) c.in_ok-groups.groups.items
    ∙ ap (map place_of_prefix) (c.in_ok-groups.ensures ∙ ap (several same_prefix) (c.deref-2.ensures.value ∙ found)))
    c.places_of_prefixes.ensures
