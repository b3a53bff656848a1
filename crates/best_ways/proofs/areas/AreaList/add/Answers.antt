use Rattle.std.proofs.Common.{[], ◌∷◌}
use Rattle.lsa_codec.proofs.OrderLemmas.{area_total}
use Rattle.best_ways.proofs.RisingLemmas.{sorted_rising}
use Rattle.best_ways.proofs.areas.AreaList.add.Goals as goal

pub invariant_of-self-in-Nothing-2 : goal.invariant_of-self-in-Nothing-2
invariant_of-self-in-Nothing-2 g c = sorted_rising area_total (c.args.area ∷ [])
