-- The summary-LSAs whose metrics follow from the database, and these metrics (RFC 2328, 12.4.3).
use Rattle.std.specs.Prelude.{ℕ, nat_lt, List, Bool, false, ◌&&◌, ◌||◌, ◌==◌, not, if◌then◌else◌, Option, None, Some}
use Rattle.std.specs.List.{list_any}
use Rattle.std.specs.Option.{option_and_then, option_map_or, option_or}
use Rattle.lsa_codec.specs.Areas.{is_backbone}
use Rattle.lsa_codec.specs.LsTypes.{asbr_summary_lsa}
use Rattle.lsa_codec.specs.declared.address.AreaId.{AreaId}
use Rattle.lsa_codec.specs.declared.address.RouterId.{RouterId}
use Rattle.lsa_codec.specs.Fields.{kind_of}
use Rattle.lsa_codec.specs.Prefix.{Net}
use Rattle.lsa_codec.specs.Views.{ls_infinity, net_of_summary}
use Rattle.lsdb.specs.Lists.{AreaHead, Lists, areas_of}
use Rattle.area_graph.specs.Area.{is_live}
use Rattle.area_routes.specs.Attached.{attached_areas, is_attached}
use Rattle.area_routes.specs.Inter.{is_summary, named_router, originator_of}
use Rattle.best_ways.specs.Routes.{route_to}
use Rattle.area_routes.specs.Values.{EntryValue}
use Rattle.best_ways.specs.Values.{RouteValue}
use Rattle.external_routes.specs.Choose.{is_asbr_intra, is_intra, preferred}

-- ---- the LSAs

abbrev pub is_head_of_area : AreaId → AreaHead → Bool
is_head_of_area area head = head.id == area.0

-- whether the area is a stub area (3.6)
abbrev pub is_stub_area : Lists → AreaId → Bool
is_stub_area db area = list_any (λ head. head.is_stub && is_head_of_area area head) (areas_of db)

-- whether the router is attached to an area other than this one
abbrev pub is_attached_elsewhere : Lists → AreaId → RouterId → Bool
is_attached_elsewhere db area router = list_any (λ head. not (is_head_of_area area head)) (attached_areas db router)

-- whether a router belongs to this area and to another one, as an area border router does (3.3)
abbrev pub borders : Lists → AreaId → RouterId → Bool
borders db area router = is_attached db area router && is_attached_elsewhere db area router

-- the prefix of length 0: the default destination (16.1)
abbrev pub is_default : Net → Bool
is_default net = net.len == 0

-- whether an LSA of an area is for the default destination in a stub area, by its prefix: its metric is configured
-- (12.4.3.1)
abbrev pub is_stub_default : Lists → AreaId → Option Net → Bool
is_stub_default db area net = option_map_or is_default net false && is_stub_area db area

-- whether an LSA of an area is a live summary-LSA whose metric is calculated: it is not for the default destination in a stub
-- area, whose metric is configured
abbrev pub is_calculated : Lists → AreaId → List ℕ → Bool
is_calculated db area lsa = is_summary lsa && (is_live lsa && not (is_stub_default db area (net_of_summary lsa)))

-- whether the metric of an LSA of an area follows from the database: it is calculated, and the originator is attached to the
-- area and to another one
abbrev pub is_covered : Lists → AreaId → List ℕ → Bool
is_covered db area lsa = is_calculated db area lsa && borders db area (originator_of lsa)

-- ---- the metrics

-- whether an area is among these
abbrev pub is_among : AreaId → List AreaId → Bool
is_among area areas = list_any (λ a. a.0 == area.0) areas

-- whether the originator announces a route into an area: no path of it leads through the area, and into the backbone it is
-- an intra-area route
abbrev pub is_announced_route : AreaId → RouteValue → Bool
is_announced_route area r = not (is_among area r.areas) && (not (is_backbone area) || is_intra r.kind)

-- whether the originator announces an entry of an AS boundary router into an area, by the same
-- rules
abbrev pub is_announced_entry : AreaId → EntryValue → Bool
is_announced_entry area e = not (e.area.0 == area.0) && (not (is_backbone area) || is_asbr_intra e.kind)

-- the cost of the route to a prefix, where it is announced into the area
abbrev pub cost_of_net : AreaId → List RouteValue → Net → Option ℕ
cost_of_net area routes net = option_and_then (λ r. if is_announced_route area r then Some r.cost else None) (route_to routes net)

-- the cost of the preferred entry of an AS boundary router, where it is announced into the area
abbrev pub cost_of_asbr : AreaId → List EntryValue → RouterId → Option ℕ
cost_of_asbr area entries asbr = option_and_then (λ e. if is_announced_entry area e then Some e.cost else None) (preferred entries asbr)

-- the AS boundary router of a summary-LSA of type 4; no such LSA is announced into a stub area
abbrev pub asbr_of_summary : Lists → AreaId → List ℕ → Option RouterId
asbr_of_summary db area lsa = if (kind_of lsa == asbr_summary_lsa) && not (is_stub_area db area) then Some (named_router lsa) else None

-- the cost that the originator of an LSA of an area announces for the LSA's destination, by the
-- originator's routes and entries
abbrev pub announced_cost : Lists → AreaId → List ℕ → List RouteValue → List EntryValue → Option ℕ
announced_cost db area lsa routes entries =
    option_or (option_and_then (cost_of_net area routes) (net_of_summary lsa)) (option_and_then (cost_of_asbr area entries) (asbr_of_summary db area lsa))

-- the metric for a cost
abbrev pub metric_for : ℕ → ℕ
metric_for cost = if nat_lt cost ls_infinity then cost else ls_infinity

-- the metric that an LSA of an area should have, by the routes and the entries of its originator: that for the announced
-- cost, and LSInfinity where none is announced
abbrev pub due : Lists → AreaId → List ℕ → List RouteValue → List EntryValue → ℕ
due db area lsa routes entries = option_map_or metric_for (announced_cost db area lsa routes entries) ls_infinity
