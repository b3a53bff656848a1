-- What is found on the links of each router.
use Rattle.std.specs.Prelude.{List, ◌++◌}
use Rattle.std.specs.List.{flat_map}
use Rattle.lsa_codec.specs.declared.address.RouterId.{RouterId}
use Rattle.lsdb.specs.Lists.{Lists}
use Rattle.audit_places.specs.Places.{PlaceValue}
use Rattle.audit_areas.specs.Areas.{AreaValue, audited_areas}
use Rattle.audit_areas.specs.Findings.{FindsAt, places_by_router, places_in}
use Rattle.audit_links.specs.declared.finding.LinkFinding.{LinkFinding}
use Rattle.audit_links.specs.declared.finding.LinkFinding.TheVariants.{OneWay, UnequalCost, SeveralNeighbors}
use Rattle.audit_links.specs.Neighbors.{interfaces_with_several}
use Rattle.audit_links.specs.OneWay.{one_way_links, one_way_members}
use Rattle.audit_links.specs.Unequal.{unequal_costs}

abbrev pub found_in : LinkFinding → AreaValue → RouterId → List PlaceValue
found_in OneWay = one_way_links
found_in UnequalCost = unequal_costs
found_in SeveralNeighbors = interfaces_with_several

abbrev pub found_on_links : LinkFinding → FindsAt
found_on_links finding areas = found_in finding

-- `one-way-link`: of an area first links, by router and number, then members of networks
abbrev pub one_way_in : List AreaValue → AreaValue → List PlaceValue
one_way_in areas area = places_in (found_on_links OneWay) areas area ++ one_way_members area

abbrev pub one_way_in_all : List AreaValue → List PlaceValue
one_way_in_all areas = flat_map (one_way_in areas) areas

abbrev pub one_way_link_places : Lists → List PlaceValue
one_way_link_places db = one_way_in_all (audited_areas db)

-- `unequal-cost`
abbrev pub unequal_cost_places : Lists → List PlaceValue
unequal_cost_places db = places_by_router (found_on_links UnequalCost) db

-- `point-to-multipoint`
abbrev pub point_to_multipoint_places : Lists → List PlaceValue
point_to_multipoint_places db = places_by_router (found_on_links SeveralNeighbors) db
