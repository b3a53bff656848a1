use Rattle.std.proofs.Common.{◌≡◌, map, take}
use Rattle.lsdb.specs.Slots.{lists_of}
use Rattle.event_links.specs.Selections.{chosen_in}
use Rattle.event_links.proofs.selecting.chosen_everywhere.Given as goal

-- the links of the areas so far
abbrev pub invariant-loop-area : goal.invariant-loop-area
invariant-loop-area g l = l.found.items ≡ map (λ area. chosen_in (lists_of l.database) area l.selection) (take l.area-index l.areas)
