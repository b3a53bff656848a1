use Rattle.std.proofs.Common.{◌≡◌, take}
use Rattle.std.specs.List.{filter_map}
use Rattle.audit_topology.specs.Parts.{split_in}
use Rattle.audit_topology.proofs.split_areas.split_in_all.Given as goal

-- the places of the areas so far
abbrev pub invariant-loop-area : goal.invariant-loop-area
invariant-loop-area g l = l.places.items ≡ filter_map (split_in l.areas) (take l.area-index l.areas)
