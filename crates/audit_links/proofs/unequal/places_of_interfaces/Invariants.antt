use Rattle.std.proofs.Common.{◌≡◌, ◌++◌, drop}
use Rattle.std.specs.List.{enumerate_from, filter_map}
use Rattle.audit_links.specs.Unequal.{place_if_unequal, places_of_interfaces}
use Rattle.audit_links.proofs.unequal.places_of_interfaces.Given as goal

-- the places of the interfaces so far, and those of the interfaces that are left
abbrev pub invariant-loop-before : goal.invariant-loop-before
invariant-loop-before g l =
    l.places.items ++ filter_map (place_if_unequal l.area l.router) (enumerate_from l.before (drop l.before l.interfaces))
    ≡ places_of_interfaces l.area l.router l.interfaces
