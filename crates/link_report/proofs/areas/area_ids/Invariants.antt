use Rattle.std.proofs.Common.{◌≡◌, map, take}
use Rattle.lsdb.specs.Lists.{areas_of}
use Rattle.lsdb.specs.Slots.{lists_of}
use Rattle.area_routes.specs.Attached.{id_of}
use Rattle.link_report.proofs.areas.area_ids.Given as goal

-- the areas so far
abbrev pub invariant-loop-i : goal.invariant-loop-i
invariant-loop-i g l = l.areas.items ≡ map id_of (take l.i (areas_of (lists_of l.database)))
