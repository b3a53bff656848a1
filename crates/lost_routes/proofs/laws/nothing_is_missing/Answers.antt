use Rattle.lost_routes.proofs.Present.{none_missing}
use Rattle.lost_routes.proofs.Unchanged.{nothing_lost_in}
use Rattle.lost_routes.proofs.laws.nothing_is_missing.Goals as goal

pub returns-clause-router : goal.returns-clause-router
returns-clause-router c = λ r. none_missing r

pub returns-clause-network : goal.returns-clause-network
returns-clause-network c = λ db. nothing_lost_in db
