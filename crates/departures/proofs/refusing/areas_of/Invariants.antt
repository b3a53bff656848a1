use Rattle.std.proofs.Common.{◌≡◌, map, take}
use Rattle.lsdb.specs.Lists.{areas_of}
use Rattle.lsdb.specs.Slots.{lists_of}
use Rattle.event_links.specs.Selections.{id_of}
use Rattle.departures.proofs.refusing.areas_of.Given as goal

-- the areas so far
abbrev pub invariant-loop-i : goal.invariant-loop-i
invariant-loop-i g l = l.areas.items ≡ map id_of (take l.i (areas_of (lists_of l.database)))
