use Rattle.route_laws.proofs.Between.{inter_routes_are_best}
use Rattle.route_laws.proofs.laws.inter_routes_are_best.Goals as goal

pub returns : goal.returns
returns c = λ db router intra is. inter_routes_are_best c.ways_are_best.ensures.best c.entries_stand_once.ensures db router intra is
