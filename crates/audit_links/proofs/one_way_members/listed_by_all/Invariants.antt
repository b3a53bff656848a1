use Rattle.std.proofs.Common.{◌≡◌, take}
use Rattle.std.specs.List.{flat_map}
use Rattle.audit_links.specs.OneWay.{listed_alone}
use Rattle.audit_links.proofs.one_way_members.listed_by_all.Given as goal

-- those of the LSAs so far
abbrev pub invariant-loop-vertex : goal.invariant-loop-vertex
invariant-loop-vertex g l = l.listed.items ≡ flat_map (listed_alone l.area) (take l.vertex-index l.lsas)
