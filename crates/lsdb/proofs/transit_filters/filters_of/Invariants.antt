use Rattle.std.proofs.Common.{◌≡◌, take}
use Rattle.lsdb.specs.steps.Filtering.{filters_of}
use Rattle.lsdb.proofs.transit_filters.filters_of.Given as goal

-- the filters of the slots so far
abbrev pub invariant-loop-slot : goal.invariant-loop-slot
invariant-loop-slot g l = l.filters.items ≡ filters_of (take l.slot-index l.slots)
