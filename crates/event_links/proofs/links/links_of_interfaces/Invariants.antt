use Rattle.std.proofs.Common.{◌≡◌, take}
use Rattle.lsdb.specs.Slots.{lists_of}
use Rattle.event_links.specs.Interfaces.{links_of_interfaces}
use Rattle.event_links.proofs.links.links_of_interfaces.Given as goal

-- the links of the interfaces so far
abbrev pub invariant-loop-own : goal.invariant-loop-own
invariant-loop-own g l = l.links.items ≡ links_of_interfaces (lists_of l.database) l.area l.router (take l.own-index l.chosen)
