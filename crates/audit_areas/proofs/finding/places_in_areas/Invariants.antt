use Rattle.std.proofs.Common.{◌≡◌, take}
use Rattle.std.specs.List.{flat_map}
use Rattle.audit_areas.specs.Findings.{places_in}
use Rattle.audit_areas.proofs.finding.places_in_areas.Given as goal

-- what is found in the areas so far
abbrev pub invariant-loop-area : goal.invariant-loop-area
invariant-loop-area g l = l.places.items ≡ flat_map (places_in (g.F.Finding.finds l.finding) l.areas) (take l.area-index l.areas)
