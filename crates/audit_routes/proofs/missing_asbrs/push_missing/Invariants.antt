use Rattle.std.proofs.Common.{◌≡◌, ◌++◌, take}
use Rattle.std.specs.List.{filter_map}
use Rattle.audit_routes.specs.Missing.{missing_asbr}
use Rattle.audit_routes.proofs.missing_asbrs.push_missing.Given as goal

-- the places of the AS boundary routers so far were added
abbrev pub invariant-loop-asbr : goal.invariant-loop-asbr
invariant-loop-asbr g l =
    l.places.items ≡ l.initial.places.items
    ++ filter_map (missing_asbr l.area l.ways.router l.announced l.ways.entries) (take l.asbr-index l.asbrs)
