use Rattle.std.proofs.Common.{◌≡◌, ◌++◌}
use Rattle.lsdb.specs.declared.section.Section.TheVariants.{AsWide}
use Rattle.departures.specs.Departures.{as_lsa_after}
use Rattle.departures.proofs.SlotWalks.{from_slot}
use Rattle.departures.proofs.walking.add_as_wide.Given as goal

abbrev pub invariant-loop-index : goal.invariant-loop-index
invariant-loop-index g l =
    l.changes.items ++ from_slot (as_lsa_after l.event) l.number AsWide l.database l.index
    ≡ l.fn.changes.items ++ from_slot (as_lsa_after l.event) l.number AsWide l.database 0
