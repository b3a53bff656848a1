use Rattle.std.proofs.Common.{◌≡◌, take}
use Rattle.std.specs.List.{flat_map}
use Rattle.lsdb.specs.Slots.{lists_of}
use Rattle.audit_lsas.specs.Undescribed.{namings_by}
use Rattle.audit_lsas.proofs.undescribed.namings_in.Given as goal

-- the namings by the LSAs so far
abbrev pub invariant-loop-vertex : goal.invariant-loop-vertex
invariant-loop-vertex g l = l.namings.items ≡ flat_map (namings_by (lists_of l.database) l.area) (take l.vertex-index l.vertex-items)
