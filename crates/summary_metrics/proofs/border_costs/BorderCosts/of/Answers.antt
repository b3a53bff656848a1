use Rattle.summary_metrics.proofs.RouterPlaces.{sorted_none}
use Rattle.summary_metrics.proofs.border_costs.BorderCosts.of.Goals as goal

pub from_sorted-requires-clause-sorted : goal.from_sorted-requires-clause-sorted
from_sorted-requires-clause-sorted g c = sorted_none c.new.result.items c.new.ensures.items
