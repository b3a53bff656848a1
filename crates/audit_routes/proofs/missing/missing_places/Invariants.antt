use Rattle.std.proofs.Common.{◌≡◌, take}
use Rattle.lsdb.specs.Lists.{areas_of}
use Rattle.lsdb.specs.Slots.{lists_of}
use Rattle.audit_routes.specs.Missing.{missing_among}
use Rattle.audit_routes.proofs.missing.missing_places.Given as goal

-- the places in the areas so far
abbrev pub invariant-loop-i : goal.invariant-loop-i
invariant-loop-i g l = l.places.items ≡ missing_among (lists_of l.database) l.routers.items (take l.i (areas_of (lists_of l.database)))
