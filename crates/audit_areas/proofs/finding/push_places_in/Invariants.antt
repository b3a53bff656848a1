use Rattle.std.proofs.Common.{◌≡◌, ◌++◌, take}
use Rattle.std.specs.List.{flat_map}
use Rattle.audit_areas.proofs.finding.push_places_in.Given as goal

-- what is found at the routers so far was added
abbrev pub invariant-loop-router : goal.invariant-loop-router
invariant-loop-router g l =
    l.places.items ≡ l.initial.places.items ++ flat_map (g.F.Finding.finds l.finding l.areas l.area) (take l.router-index l.router-items)
