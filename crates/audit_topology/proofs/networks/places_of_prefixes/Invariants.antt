use Rattle.std.proofs.Common.{◌≡◌, map, take}
use Rattle.audit_places.specs.Places.{several_networks}
use Rattle.audit_topology.proofs.networks.places_of_prefixes.Given as goal

-- the places of the groups so far
abbrev pub invariant-loop-group : goal.invariant-loop-group
invariant-loop-group g l = l.places.items ≡ map (λ p. several_networks p.0 (map (λ n. n.1) p.1.items)) (take l.group-index l.groups)
