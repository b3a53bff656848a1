use Rattle.std.proofs.Common.{◌≡◌, ◌∙◌, Some, ap, rules, sym}
use Rattle.std.specs.List.{slice_get}
use Rattle.std.proofs.lemmas.Option.{slice_get-get_or}
use Rattle.best_ways.specs.Routes.{route_to}
use Rattle.table_report.proofs.Differing.{route_at}
use Rattle.table_report.proofs.compare.route_near.Goals as goal

pub returns-in-Some : goal.returns-in-Some
returns-in-Some g c =
    let routes = c.as_slice.result.now in
    let route = c.in-Some.route.now in
    let at : slice_get routes c.args.place ≡ Some route =
    slice_get-get_or routes c.args.place route (search rules) ∙ ap Some (sym c.in-Some.ensures.lookup.1) in
    let is : route.net ≡ c.args.net = search rules in
    route_at routes c.args.place route c.args.net c.as_slice.ensures.sorted at is
    ∙ ap (λ rs. route_to rs c.args.net) c.as_slice.ensures.routes
