use Rattle.std.proofs.Common.{◌≡◌, ◌++◌}
use Rattle.lsdb.specs.Slots.{lists_of}
use Rattle.departures.specs.Departures.{outcome_of}
use Rattle.departures.proofs.SlotWalks.{from_section}
use Rattle.departures.proofs.walking.slots_after.Given as goal

abbrev pub invariant-loop-number : goal.invariant-loop-number
invariant-loop-number g l =
    l.changes.items ++ from_section (outcome_of (lists_of l.database) l.event) l.database l.number
    ≡ from_section (outcome_of (lists_of l.database) l.event) l.database 0
