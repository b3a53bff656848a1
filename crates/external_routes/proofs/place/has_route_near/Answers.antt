use Rattle.std.proofs.Common.{rules, sym, ap, ◌∙◌}
use Rattle.std.proofs.lemmas.List.Sorted.{answers_always}
use Rattle.best_ways.specs.Routes.{has_route}
use Rattle.external_routes.proofs.Places.{no_route_found, route_found}
use Rattle.external_routes.proofs.place.has_route_near.Goals as goal

pub returns-in-Ok : goal.returns-in-Ok
returns-in-Ok g c =
    let at = c.in-Ok.ensures.position (λ r. r.net) (answers_always _ _ _ (λ f a r h called. search rules)) in
    sym (route_found c.args.net c.as_slice-routes.result.now c.in-Ok.field-0 c.as_slice-routes.ensures.sorted c.in-Ok.ensures.bound at)
    ∙ ap (λ routes. has_route routes c.args.net) c.as_slice-routes.ensures.routes

pub returns-in-Err : goal.returns-in-Err
returns-in-Err g c =
    let at = c.in-Err.ensures.position (λ r. r.net) (answers_always _ _ _ (λ f a r h called. search rules)) in
    sym (no_route_found c.args.net c.as_slice-routes.result.now c.in-Err.next c.as_slice-routes.ensures.sorted at)
    ∙ ap (λ routes. has_route routes c.args.net) c.as_slice-routes.ensures.routes
