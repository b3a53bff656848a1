-- `unequal-cost`: point-to-point links with other costs back (RFC 2328, 12.4.1).
use Rattle.std.specs.Prelude.{ℕ, ◌+◌, ◌==◌, ◌&&◌, Bool, not, nat_lt, if◌then◌else◌, List, map, Option, None, Some}
use Rattle.std.specs.List.{enumerate_from, filter_map, list_any}
use Rattle.lsa_codec.specs.declared.address.RouterId.{RouterId}
use Rattle.interfaces.specs.declared.interface.Interface.{Interface}
use Rattle.interfaces.specs.FarEnds.{costs_back, far_ends_in}
use Rattle.interfaces.specs.Routers.{interfaces_in}
use Rattle.audit_places.specs.declared.cost.Cost.{Cost}
use Rattle.audit_places.specs.Places.{PlaceValue, unequal_cost}
use Rattle.audit_areas.specs.Areas.{AreaValue}

-- the costs back over an interface, in rising order: those of its far ends
abbrev pub costs_over : AreaValue → RouterId → Interface → List ℕ
costs_over area router own = costs_back (far_ends_in area.db area.area router own)

-- some cost back is another
abbrev pub has_other_cost : ℕ → List ℕ → Bool
has_other_cost cost back = list_any (λ other. not (other == cost)) back

-- an interface to a router of greater ID has other costs back
abbrev pub is_unequal : RouterId → Interface → List ℕ → Bool
is_unequal router own back = nat_lt router.0 own.link.id.0 && has_other_cost own.link.metric back

abbrev pub shown_cost : ℕ → Cost
shown_cost cost = record { 0 = cost }

module _ (area : AreaValue) (router : RouterId) where
  -- the place of an interface, with this number of links before its own
  abbrev pub place_of : ℕ → Interface → List ℕ → PlaceValue
  place_of before own back =
      unequal_cost area.area router (before + 1) (record { 0 = own.link.id.0 }) own.link.metric (map shown_cost back)

  abbrev pub place_by : ℕ → Interface → List ℕ → Option PlaceValue
  place_by before own back = if is_unequal router own back then Some (place_of before own back) else None

  abbrev pub place_if_unequal : ℕ × Interface → Option PlaceValue
  place_if_unequal one = place_by one.0 one.1 (costs_over area router one.1)

  -- the places of some interfaces of the router, by number
  abbrev pub places_of_interfaces : List Interface → List PlaceValue
  places_of_interfaces interfaces = filter_map place_if_unequal (enumerate_from 0 interfaces)

-- the point-to-point links to routers of greater ID that have other costs back
abbrev pub unequal_costs : AreaValue → RouterId → List PlaceValue
unequal_costs area router = places_of_interfaces area router (interfaces_in area.db area.area router)
