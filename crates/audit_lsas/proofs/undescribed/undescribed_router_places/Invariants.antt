use Rattle.std.proofs.Common.{◌≡◌, take}
use Rattle.std.specs.List.{flat_map}
use Rattle.lsdb.specs.Slots.{lists_of}
use Rattle.audit_lsas.specs.Undescribed.{missing_places}
use Rattle.audit_lsas.proofs.undescribed.undescribed_router_places.Given as goal

-- the places in the areas so far
abbrev pub invariant-loop-area : goal.invariant-loop-area
invariant-loop-area g l =
    l.places.items ≡ flat_map (missing_places (lists_of l.loaded) (lists_of l.now)) (take l.area-index l.area-items)
