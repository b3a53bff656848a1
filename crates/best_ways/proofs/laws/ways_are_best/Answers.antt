use Rattle.best_ways.proofs.Words.{only_ways, ways_are_best}
use Rattle.best_ways.proofs.laws.ways_are_best.Goals as goal

pub returns-clause-best : goal.returns-clause-best
returns-clause-best g c = λ cs. ways_are_best g.met.K.Ord.total c.requires cs

pub returns-clause-only : goal.returns-clause-only
returns-clause-only g c = λ cs ways p. only_ways g.met.K.Ord.total c.requires cs ways p
