use Rattle.std.proofs.Common.{◌≡◌, map, take}
use Rattle.lsdb.specs.Slots.{lists_of}
use Rattle.link_report.specs.Areas.{used_area}
use Rattle.link_report.proofs.areas.used_areas.Given as goal

-- the areas so far
abbrev pub invariant-loop-area : goal.invariant-loop-area
invariant-loop-area g l = l.areas.items ≡ map (used_area (lists_of l.database)) (take l.area-index l.area-items)
