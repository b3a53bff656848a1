use Rattle.std.proofs.Common.{◌≡◌, take}
use Rattle.std.specs.List.{flat_map}
use Rattle.lsdb.specs.Slots.{lists_of}
use Rattle.event_links.specs.Interfaces.{stubs_at}
use Rattle.event_links.proofs.masks.stubs_everywhere.Given as goal

-- the links of the areas so far
abbrev pub invariant-loop-area : goal.invariant-loop-area
invariant-loop-area g l = l.found.items ≡ flat_map (λ area. stubs_at (lists_of l.database) area l.router l.address) (take l.area-index l.areas)
