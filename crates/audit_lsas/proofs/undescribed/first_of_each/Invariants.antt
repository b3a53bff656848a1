use Rattle.std.proofs.Common.{◌≡◌, ◌++◌, None, drop}
use Rattle.audit_lsas.specs.Undescribed.{first_of_each}
use Rattle.audit_lsas.proofs.undescribed.first_of_each.Given as goal

-- those that were found so far, and the first of each of the namings that are left
abbrev pub invariant-loop-naming : goal.invariant-loop-naming
invariant-loop-naming g l = l.found.items ++ first_of_each l.last (drop l.naming-index l.namings) ≡ first_of_each None l.fn.namings
