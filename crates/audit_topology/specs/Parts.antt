-- `split-area`: areas whose routers are in several parts without a path between them (RFC 2328, 3.7).
use Rattle.std.specs.Prelude.{Bool, ◌==◌, ◌&&◌, ◌||◌, is_some, nat_lt, if◌then◌else◌, List, [], ◌∷◌, ◌++◌, length, filter, fold, Option, None, Some}
use Rattle.std.specs.List.{filter_map, list_any}
use Rattle.lsa_codec.specs.declared.address.AreaId.{AreaId}
use Rattle.lsa_codec.specs.declared.address.RouterId.{RouterId}
use Rattle.lsdb.specs.Lists.{Lists}
use Rattle.area_graph.specs.declared.vertex.Vertex.{Vertex}
use Rattle.area_graph.specs.declared.vertex.Vertex.TheVariants.{Router}
use Rattle.area_graph.specs.AllPaths.{distance_of}
use Rattle.area_graph.specs.Paths.{DirectedEdge}
use Rattle.audit_places.specs.Places.{PlaceValue, in_parts}
use Rattle.audit_areas.specs.Areas.{AreaValue, audited_areas, edges_in, routers_in}
use Rattle.audit_areas.specs.Borders.{is_border}

-- there is a path from one router to another: `distance_of` is over all paths
abbrev pub is_path_between : List (DirectedEdge Vertex) → RouterId → RouterId → Bool
is_path_between edges one other = is_some (distance_of edges (Router one) (Router other))

-- the part of a router: the routers of the area to which there is a path
abbrev pub part_of : AreaValue → RouterId → List RouterId
part_of area router = filter (is_path_between (edges_in area) router) (routers_in area)

-- a router is in a part, or in one of some parts
abbrev pub is_in : RouterId → List RouterId → Bool
is_in router part = list_any (λ other. other.0 == router.0) part

abbrev pub is_in_some : RouterId → List (List RouterId) → Bool
is_in_some router parts = list_any (is_in router) parts

-- two routers are in one of some parts
abbrev pub are_together : RouterId → RouterId → List (List RouterId) → Bool
are_together one other parts = list_any (λ part. is_in one part && is_in other part) parts

-- parts with that of one more router, unless it is in one of them
abbrev pub with_part : AreaValue → List (List RouterId) → RouterId → List (List RouterId)
with_part area parts router = if is_in_some router parts then parts else parts ++ part_of area router ∷ []

-- the parts of an area, each once, in order of their least routers
abbrev pub parts_of : AreaValue → List (List RouterId)
parts_of area = fold (with_part area) [] (routers_in area)

abbrev pub has_border : List AreaValue → List RouterId → Bool
has_border areas part = list_any (is_border areas) part

-- a part counts if it has several routers, or is a border router
abbrev pub counts : List AreaValue → List RouterId → Bool
counts areas part = nat_lt 1 (length part) || has_border areas part

abbrev pub parts_that_count : List AreaValue → AreaValue → List (List RouterId)
parts_that_count areas area = filter (counts areas) (parts_of area)

-- the place of an area with these parts, if they are several
abbrev pub place_of_parts : AreaId → List (List RouterId) → Option PlaceValue
place_of_parts area parts = if nat_lt 1 (length parts) then Some (in_parts area parts) else None

abbrev pub split_in : List AreaValue → AreaValue → Option PlaceValue
split_in areas area = place_of_parts area.area (parts_that_count areas area)

-- by area
abbrev pub split_in_all : List AreaValue → List PlaceValue
split_in_all areas = filter_map (split_in areas) areas

abbrev pub split_area_places : Lists → List PlaceValue
split_area_places db = split_in_all (audited_areas db)
