use Rattle.std.proofs.Common.{◌≡◌, drop}
use Rattle.std.specs.List.{list_any}
use Rattle.lsdb.specs.Slots.{lists_of}
use Rattle.edit_history.specs.Effect.{is_in_section}
use Rattle.edit_history.proofs.lookup.has_router.Given as goal

abbrev pub invariant-loop-section : goal.invariant-loop-section
invariant-loop-section g l =
    list_any (is_in_section l.router) (drop l.section (lists_of l.database)) ≡ list_any (is_in_section l.router) (lists_of l.database)
