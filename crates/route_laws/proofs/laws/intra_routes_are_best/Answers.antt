use Rattle.area_routes.specs.Intra.{intra_of}
use Rattle.routing_table.specs.Tables.{results_in}
use Rattle.route_laws.specs.AllWays.{ways_within}
use Rattle.route_laws.proofs.One.{routes_are_one}
use Rattle.route_laws.proofs.Within.{intra_routes_are_best}
use Rattle.route_laws.proofs.laws.intra_routes_are_best.Goals as goal

pub returns-clause-best : goal.returns-clause-best
returns-clause-best c = λ db router areas.
    intra_routes_are_best c.rank_order.ensures.total c.rank_order.ensures.exact c.ways_are_best.ensures.best db router areas

pub returns-clause-same : goal.returns-clause-same
returns-clause-same c = λ db router areas.
    routes_are_one c.ways_are_best.ensures.only (ways_within db router areas) (intra_of (results_in db router areas))
    (intra_routes_are_best c.rank_order.ensures.total c.rank_order.ensures.exact c.ways_are_best.ensures.best db router areas)
