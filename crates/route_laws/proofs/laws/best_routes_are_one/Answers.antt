use Rattle.route_laws.proofs.One.{routes_are_one}
use Rattle.route_laws.proofs.laws.best_routes_are_one.Goals as goal

pub returns : goal.returns
returns c = routes_are_one c.ways_are_best.ensures.only
