use Rattle.std.proofs.Common.{map, sym, ap, ◌∙◌}
use Rattle.best_ways.specs.Routes.{route_to}
use Rattle.summary_metrics.proofs.NearPlaces.{found_by_net, missing_by_net}
use Rattle.summary_metrics.proofs.inside.Inside.route_to.Goals as goal

pub returns-in-Some : goal.returns-in-Some
returns-in-Some g c =
    let same = c.as_slice-routes.ensures.routes ∙ c.as_routes.ensures.routes in
    found_by_net (λ r. r.net) c.as_slice-routes.result.now c.self.inside.nets (c.self.invariant ∙ sym (ap (map (λ r. r.net)) same)) c.args.net c.in-Some.place
    _ c.place_of.ensures.sorted c.in-Some.ensures.at.0 c.in-Some.ensures.at.1 c.index-routes-place.is
    ∙ ap (λ rs. route_to rs c.args.net) same
    ∙ ap (λ i. route_to i.routes c.args.net) c.self.view_is

pub returns-in-None : goal.returns-in-None
returns-in-None g c =
    sym (missing_by_net (λ r. r.net) c.self.inside.routes c.self.inside.nets c.self.invariant c.args.net c.in-None.ensures.at)
    ∙ ap (λ i. route_to i.routes c.args.net) c.self.view_is
