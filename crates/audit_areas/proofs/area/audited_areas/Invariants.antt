use Rattle.std.proofs.Common.{◌≡◌, map, take}
use Rattle.lsdb.specs.Slots.{lists_of}
use Rattle.audit_areas.specs.Areas.{audited_area}
use Rattle.audit_areas.proofs.area.audited_areas.Given as goal

-- the areas so far
abbrev pub invariant-loop-area : goal.invariant-loop-area
invariant-loop-area g l = l.areas.items ≡ map (audited_area (lists_of l.database)) (take l.area-index l.area-items)
