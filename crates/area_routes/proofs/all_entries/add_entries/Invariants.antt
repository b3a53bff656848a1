use Rattle.std.proofs.Common.{◌≡◌, ◌++◌, take}
use Rattle.area_routes.proofs.all_entries.add_entries.Given as goal

abbrev pub invariant-loop-entry : goal.invariant-loop-entry
invariant-loop-entry g l = l.all.items ≡ l.fn.all.items ++ take l.entry-index l.entries
