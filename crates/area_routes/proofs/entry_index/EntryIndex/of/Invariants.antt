use Rattle.std.proofs.Common.{take}
use Rattle.area_routes.specs.steps.EntryIndex.{IsIndexOf}
use Rattle.area_routes.proofs.entry_index.EntryIndex.of.Given as goal

-- the entries so far
abbrev pub invariant-loop-entry : goal.invariant-loop-entry
invariant-loop-entry g l = IsIndexOf l.kind (take l.entry-index l.entries) l.by_router.entries
