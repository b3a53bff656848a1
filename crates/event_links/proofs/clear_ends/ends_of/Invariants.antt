use Rattle.std.proofs.Common.{◌≡◌, take}
use Rattle.lsdb.specs.Slots.{lists_of}
use Rattle.event_links.specs.Interfaces.{ends_of}
use Rattle.event_links.proofs.clear_ends.ends_of.Given as goal

-- the far ends of the interfaces so far
abbrev pub invariant-loop-own : goal.invariant-loop-own
invariant-loop-own g l = l.found.items ≡ ends_of (lists_of l.database) l.area l.router (take l.own-index l.owns)
