use Rattle.std.proofs.Common.{◌≡◌, false, take}
use Rattle.std.specs.List.{list_any}
use Rattle.audit_topology.specs.Networks.{leads_elsewhere_in}
use Rattle.audit_topology.proofs.in_use.leads_elsewhere.Given as goal

-- in none of the areas so far
abbrev pub invariant-loop-area : goal.invariant-loop-area
invariant-loop-area g l = list_any (leads_elsewhere_in l.router l.network) (take l.area-index l.areas) ≡ false
