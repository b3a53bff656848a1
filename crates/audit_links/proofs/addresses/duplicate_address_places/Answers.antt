use Rattle.std.proofs.Common.{◌∙◌, map, ap}
use Rattle.std.proofs.lemmas.Result.{IfOk-weaker}
use Rattle.audit_areas.specs.Groups.{several}
use Rattle.audit_links.specs.Addresses.{place_of_address}
use Rattle.audit_links.specs.Neighbors.{same_address}
use Rattle.audit_links.proofs.Viewed.{map-map}
use Rattle.audit_links.proofs.addresses.duplicate_address_places.Goals as goal

pub returns : goal.returns
returns g c =
    IfOk-weaker c.places_of_addresses.result _ _
    (λ places is. is
    ∙ map-map place_of_address (λ p. (p.0, p.1.items)) c.in_ok-several.field-0.items
    ∙ ap (map place_of_address) (c.in_ok-several.ensures ∙ ap (several same_address) (c.deref.ensures.value ∙ c.in_ok-sorted.ensures)))
    c.places_of_addresses.ensures
