use Rattle.std.proofs.Common.{map, ap, ◌∙◌}
use Rattle.area_routes.specs.Intra.{intra_route}
use Rattle.area_routes.specs.Values.{AreaResultValue}
use Rattle.area_routes.proofs.OneArea.{routes_by_offers}
use Rattle.area_routes.proofs.area_result.AreaResult.routes.Goals as goal

pub returns-clause-routes : goal.returns-clause-routes
returns-clause-routes g c =
    c.as_slice.ensures.value ∙ routes_by_offers c.self.inside.area c.self.inside.routes.items c.self.invariant.intra
    ∙ ap (λ (r : AreaResultValue). map (intra_route r.area) r.offers) c.self.view_is
