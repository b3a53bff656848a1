use Rattle.std.proofs.Common.{[], ◌∷◌}
use Rattle.lsa_codec.proofs.OrderLemmas.{area_total}
use Rattle.best_ways.proofs.RisingLemmas.{sorted_rising}
use Rattle.best_ways.proofs.areas.AreaList.of_one.Goals as goal

pub invariant_of-result : goal.invariant_of-result
invariant_of-result g c = sorted_rising area_total (c.args.area ∷ [])
