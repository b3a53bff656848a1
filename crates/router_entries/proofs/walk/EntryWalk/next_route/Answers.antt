use Rattle.std.proofs.Common.{◌≡◌, ◌<◌, ◌∙◌, get_or, length, ap, rules, sym}
use Rattle.best_ways.specs.Routes.{route_to}
use Rattle.best_ways.specs.Values.{RouteValue}
use Rattle.router_entries.proofs.EntryLemmas.{route_at, same_net}
use Rattle.router_entries.proofs.walk.EntryWalk.next_route.Goals as goal

pub returns-in-Some-clause-route : goal.returns-in-Some-clause-route
returns-in-Some-clause-route g c =
    let routes = c.as_slice.result.now in
    let route = c.in-Some.route.now in
    let place = c.self.inside.place in
    let within : place < length routes = search rules in
    let is : route ≡ get_or routes place route = search rules in
    let same : route.net ≡ c.args.net =
    sym (ap (λ (r : RouteValue). r.net) c.route.view_is) ∙ same_net c.route.inside.net c.args.net (sym c.eq.ensures ∙ c.if-eq.true) in
    let all : routes ≡ c.args.self.now.routes = search rules in
    route_at routes place route c.args.net c.as_slice.ensures.sorted within is same ∙ ap (λ rs. route_to rs c.args.net) all
