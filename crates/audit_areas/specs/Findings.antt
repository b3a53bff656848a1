-- What is found at each router of each area.
use Rattle.std.specs.Prelude.{List}
use Rattle.std.specs.List.{flat_map}
use Rattle.lsa_codec.specs.declared.address.RouterId.{RouterId}
use Rattle.lsdb.specs.Lists.{Lists}
use Rattle.audit_places.specs.Places.{PlaceValue}
use Rattle.audit_areas.specs.Areas.{AreaValue, audited_areas, routers_in}

-- the places at a router in one of some areas
abbrev pub FindsAt : Type 0
FindsAt = List AreaValue → AreaValue → RouterId → List PlaceValue

-- the places at the routers of an area, by Router ID
abbrev pub places_in : FindsAt → List AreaValue → AreaValue → List PlaceValue
places_in at areas area = flat_map (at areas area) (routers_in area)

-- those of some areas, by area and Router ID
abbrev pub places_in_areas : FindsAt → List AreaValue → List PlaceValue
places_in_areas at areas = flat_map (places_in at areas) areas

-- those of all areas of a database
abbrev pub places_by_router : FindsAt → Lists → List PlaceValue
places_by_router at db = places_in_areas at (audited_areas db)
