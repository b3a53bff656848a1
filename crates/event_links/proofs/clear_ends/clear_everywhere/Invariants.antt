use Rattle.std.proofs.Common.{◌≡◌, map, take}
use Rattle.lsdb.specs.Slots.{lists_of}
use Rattle.event_links.specs.Events.{clear_in}
use Rattle.event_links.proofs.clear_ends.clear_everywhere.Given as goal

-- the answers of the areas so far
abbrev pub invariant-loop-area : goal.invariant-loop-area
invariant-loop-area g l = l.found.items ≡ map (clear_in (lists_of l.database) l.end) (take l.area-index l.areas)
