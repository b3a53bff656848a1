use Rattle.std.proofs.Common.{◌≡◌, ◌++◌, take}
use Rattle.std.specs.List.{flat_map}
use Rattle.lsdb.specs.Slots.{lists_of}
use Rattle.audit_routes.specs.Missing.{missing_in}
use Rattle.audit_routes.proofs.missing.push_area.Given as goal

-- the places of the routers so far were added
abbrev pub invariant-loop-ways : goal.invariant-loop-ways
invariant-loop-ways g l =
    l.places.items ≡ l.initial.places.items
    ++ flat_map (missing_in (lists_of l.database) (record { id = l.area.0.0; is_stub = l.area.1 })) (take l.ways-index l.routers)
