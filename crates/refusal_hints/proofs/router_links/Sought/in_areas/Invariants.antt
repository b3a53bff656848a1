use Rattle.std.proofs.Common.{◌≡◌, take}
use Rattle.std.specs.List.{flat_map}
use Rattle.lsdb.specs.Slots.{lists_of}
use Rattle.refusal_hints.specs.RouterLinks.{sought_in}
use Rattle.refusal_hints.proofs.router_links.Sought.in_areas.Given as goal

-- those of the areas so far
abbrev pub invariant-loop-area : goal.invariant-loop-area
invariant-loop-area g l = l.found.items ≡ flat_map (sought_in l.self (lists_of l.database) l.router) (take l.area-index l.areas)
