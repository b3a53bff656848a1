use Rattle.std.proofs.Common.{◌≡◌, ◌++◌, take}
use Rattle.std.specs.List.{flat_map}
use Rattle.lsdb.specs.Slots.{lists_of}
use Rattle.audit_lsas.specs.Orphans.{boundaries_in}
use Rattle.audit_lsas.proofs.orphans.push_boundaries.Given as goal

-- the routers that the summary-LSAs of the areas so far describe
abbrev pub invariant-loop-area : goal.invariant-loop-area
invariant-loop-area g l = l.found.items ≡ l.initial.found.items ++ flat_map (boundaries_in (lists_of l.database)) (take l.area-index l.areas)
