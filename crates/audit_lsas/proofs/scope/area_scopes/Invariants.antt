use Rattle.std.proofs.Common.{◌≡◌, map, take}
use Rattle.lsdb.specs.Lists.{areas_of}
use Rattle.lsdb.specs.Slots.{lists_of}
use Rattle.audit_lsas.specs.Found.{some_scope}
use Rattle.audit_lsas.proofs.scope.area_scopes.Given as goal

-- the areas so far
abbrev pub invariant-loop-i : goal.invariant-loop-i
invariant-loop-i g l = l.found.items ≡ map some_scope (take l.i (areas_of (lists_of l.database)))
