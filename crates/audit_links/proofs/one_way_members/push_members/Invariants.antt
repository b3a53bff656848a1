use Rattle.std.proofs.Common.{◌≡◌, ◌++◌, map, take}
use Rattle.audit_links.specs.OneWay.{place_of_member}
use Rattle.audit_links.proofs.one_way_members.push_members.Given as goal

-- the places of the members so far were added
abbrev pub invariant-loop-listed : goal.invariant-loop-listed
invariant-loop-listed g l =
    l.places.items ≡ l.initial.places.items ++ map (place_of_member l.area.area) (take l.listed-index l.listed-items)
