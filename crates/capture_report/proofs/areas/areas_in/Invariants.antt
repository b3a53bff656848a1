use Rattle.std.proofs.Common.{◌≡◌, map, take}
use Rattle.lsa_codec.specs.declared.address.AreaId.{AreaId}
use Rattle.lsdb.specs.Lists.{AreaHead, areas_of}
use Rattle.lsdb.specs.Slots.{lists_of}
use Rattle.capture_report.proofs.areas.areas_in.Given as goal

abbrev pub id_of : AreaHead → AreaId
id_of area = record { 0 = area.id }

abbrev pub invariant-loop-i : goal.invariant-loop-i
invariant-loop-i g l = l.ids.items ≡ map id_of (take l.i (areas_of (lists_of l.database)))
