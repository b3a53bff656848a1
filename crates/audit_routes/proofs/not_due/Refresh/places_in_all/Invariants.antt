use Rattle.std.proofs.Common.{◌≡◌, take}
use Rattle.std.specs.List.{flat_map}
use Rattle.audit_routes.specs.NotDue.{places_in}
use Rattle.audit_routes.proofs.not_due.Refresh.places_in_all.Given as goal

-- the places in the areas so far
abbrev pub invariant-loop-area : goal.invariant-loop-area
invariant-loop-area g l = l.places.items ≡ flat_map (places_in l.self l.metrics) (take l.area-index l.areas)
