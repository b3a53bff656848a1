use Rattle.std.proofs.Common.{◌≡◌, map, take}
use Rattle.lsdb.specs.Lists.{areas_of}
use Rattle.lsdb.specs.Slots.{lists_of}
use Rattle.event_links.specs.Selections.{id_of}
use Rattle.event_links.proofs.selecting.area_ids.Given as goal

-- the areas so far
abbrev pub invariant-loop-number : goal.invariant-loop-number
invariant-loop-number g l = l.ids.items ≡ map id_of (take l.number (areas_of (lists_of l.database)))
