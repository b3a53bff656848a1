use Rattle.std.proofs.Common.{◌≡◌, take}
use Rattle.std.specs.List.{flat_map}
use Rattle.audit_topology.specs.Networks.{networks_in}
use Rattle.audit_topology.proofs.networks.networks_in_all.Given as goal

-- those of the areas so far
abbrev pub invariant-loop-area : goal.invariant-loop-area
invariant-loop-area g l = l.found.items ≡ flat_map (networks_in l.areas) (take l.area-index l.areas)
