use Rattle.std.proofs.Common.{◌∙◌, map, ap}
use Rattle.std.proofs.lemmas.Result.{IfOk-weaker}
use Rattle.audit_areas.specs.Groups.{several}
use Rattle.audit_links.specs.Neighbors.{neighbors_of, place_of_interface, same_address}
use Rattle.audit_links.proofs.Viewed.{map-map}
use Rattle.audit_links.proofs.neighbors.interfaces_with_several.Goals as goal

pub returns : goal.returns
returns g c =
    let neighbors = neighbors_of c.args.area.now c.args.router in
    IfOk-weaker c.places_of_interfaces.result _ _
    (λ places is. is
    ∙ map-map (place_of_interface c.area.result c.args.router) (λ p. (p.0, p.1.items)) c.in_ok-groups.groups.items
    ∙ ap (map (place_of_interface c.area.result c.args.router))
    (c.in_ok-groups.ensures ∙ ap (several same_address) (c.deref.ensures.value ∙ c.in_ok-neighbors.ensures))
    ∙ λ i. map (place_of_interface (c.area.ensures i) c.args.router) (several same_address neighbors))
    c.places_of_interfaces.ensures
