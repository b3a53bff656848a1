use Rattle.std.proofs.Common.{◌≡◌, map, take}
use Rattle.audit_routes.specs.Compatibility.{classless_entry}
use Rattle.audit_routes.proofs.classless.classless_entries.Given as goal

-- the entries so far
abbrev pub invariant-loop-entry : goal.invariant-loop-entry
invariant-loop-entry g l = l.all ≡ map classless_entry (take l.entry-index l.entry-items)
