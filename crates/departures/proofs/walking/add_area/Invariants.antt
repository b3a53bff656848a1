use Rattle.std.proofs.Common.{◌≡◌, ◌++◌}
use Rattle.lsdb.specs.declared.section.Section.TheVariants.{Area}
use Rattle.lsdb.specs.Slots.{lists_of}
use Rattle.departures.specs.Departures.{area_lsa_after}
use Rattle.departures.proofs.SlotWalks.{from_slot}
use Rattle.departures.proofs.walking.add_area.Given as goal

abbrev pub invariant-loop-index : goal.invariant-loop-index
invariant-loop-index g l =
    l.changes.items ++ from_slot (area_lsa_after (lists_of l.database) l.event l.area) l.number (Area l.area) l.database l.index
    ≡ l.fn.changes.items ++ from_slot (area_lsa_after (lists_of l.database) l.event l.area) l.number (Area l.area) l.database 0
