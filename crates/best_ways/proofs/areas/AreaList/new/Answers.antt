use Rattle.best_ways.proofs.Rises.{none_rise}
use Rattle.best_ways.proofs.areas.AreaList.new.Goals as goal

pub invariant_of-result : goal.invariant_of-result
invariant_of-result g c = none_rise
