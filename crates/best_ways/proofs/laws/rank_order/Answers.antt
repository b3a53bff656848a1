use Rattle.best_ways.proofs.RankOrders.{rank_exact, rank_total}
use Rattle.best_ways.proofs.laws.rank_order.Goals as goal

pub returns-clause-total : goal.returns-clause-total
returns-clause-total c = rank_total

pub returns-clause-exact : goal.returns-clause-exact
returns-clause-exact c = rank_exact
