use Rattle.std.proofs.Common.{◌≡◌, ◌++◌, drop}
use Rattle.lsdb.specs.Slots.{lists_of}
use Rattle.event_lsas.specs.LinkEvents.{outcome_of}
use Rattle.event_lsas.specs.SlotChanges.{changes_from}
use Rattle.event_lsas.proofs.carrying.changes_of.Given as goal

abbrev pub invariant-loop-number : goal.invariant-loop-number
invariant-loop-number g l =
    l.changes.items ++ changes_from (outcome_of (lists_of l.database) l.edit) l.number (drop l.number l.database)
    ≡ changes_from (outcome_of (lists_of l.database) l.edit) 0 l.database
