use Rattle.std.proofs.Common.{◌≡◌, take}
use Rattle.std.specs.List.{flat_map}
use Rattle.audit_links.specs.LinkFindings.{one_way_in}
use Rattle.audit_links.proofs.one_way.one_way_in_all.Given as goal

-- the places of the areas so far
abbrev pub invariant-loop-area : goal.invariant-loop-area
invariant-loop-area g l = l.places.items ≡ flat_map (one_way_in l.areas) (take l.area-index l.areas)
