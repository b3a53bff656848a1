use Rattle.std.proofs.Common.{◌≡◌, take}
use Rattle.std.specs.List.{filter_map}
use Rattle.audit_topology.specs.Networks.{network_in_use}
use Rattle.audit_topology.proofs.networks.networks_of.Given as goal

-- those of the LSAs so far
abbrev pub invariant-loop-vertex : goal.invariant-loop-vertex
invariant-loop-vertex g l = l.found.items ≡ filter_map (network_in_use l.areas l.area) (take l.vertex-index l.lsas)
