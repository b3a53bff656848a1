use Rattle.std.proofs.Common.{◌≡◌, ◌++◌, drop}
use Rattle.lsdb.specs.declared.section.Section.TheVariants.{Area}
use Rattle.lsdb.specs.Slots.{slots_in}
use Rattle.event_lsas.specs.Outcomes.{where_chosen}
use Rattle.event_lsas.specs.SlotChanges.{section_changes}
use Rattle.event_lsas.proofs.carrying.add_area_changes.Given as goal

abbrev pub invariant-loop-index : goal.invariant-loop-index
invariant-loop-index g l =
    l.changes.items ++ section_changes (where_chosen l.change l.chosen) l.number (Area l.area) l.index (drop l.index (slots_in l.database l.number))
    ≡ l.fn.changes.items ++ section_changes (where_chosen l.change l.chosen) l.number (Area l.area) 0 (slots_in l.database l.number)
