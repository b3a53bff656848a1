-- Summary-LSAs that border routers announce by RFC 2328, 12.4.3, and that are not there.
use Rattle.std.specs.Prelude.{ℕ, nat_lt, Bool, ◌&&◌, not, if◌then◌else◌, List, [], ◌++◌, filter, map, Option, None, Some, option_and_then, option_map}
use Rattle.std.specs.List.{filter_map, flat_map, list_any}
use Rattle.lsa_codec.specs.LsTypes.{asbr_summary_lsa, summary_lsa}
use Rattle.lsa_codec.specs.declared.address.AreaId.{AreaId}
use Rattle.lsa_codec.specs.declared.address.RouterId.{RouterId}
use Rattle.lsa_codec.specs.Order.{prefix_cmp, router_cmp}
use Rattle.lsa_codec.specs.Prefix.{Net}
use Rattle.lsa_codec.specs.Views.{ls_infinity, net_of_summary}
use Rattle.lsdb.specs.declared.section.Section.TheVariants.{Area}
use Rattle.lsdb.specs.Lists.{AreaHead, Lists, areas_of, lsas_of}
use Rattle.area_graph.specs.Area.{is_live}
use Rattle.area_graph.specs.Rising.{rising}
use Rattle.area_routes.specs.Attached.{id_of}
use Rattle.area_routes.specs.Entries.{bit_b}
use Rattle.area_routes.specs.Inter.{originator_of, same_router}
use Rattle.area_routes.specs.Values.{EntryValue}
use Rattle.best_ways.specs.Values.{RouteValue}
use Rattle.external_routes.specs.Choose.{is_asbr_kind, preferred}
use Rattle.external_routes.specs.Summaries.{is_announced_entry, is_announced_route, is_default}
use Rattle.forwarding.specs.Matches.{has_net}
use Rattle.summary_metrics.specs.BackboneSummaries.{asbr_named}
use Rattle.summary_metrics.specs.Refreshed.{refreshed}
use Rattle.lsa_names.specs.declared.lsa_name.LsaName.{LsaName}
use Rattle.audit_places.specs.Places.{PlaceValue, not_there}
use Rattle.audit_routers.specs.Linked.{border_routers, has_router}
use Rattle.audit_routes.specs.Bits.{has_bit_in}
use Rattle.audit_routes.specs.Ways.{WaysValue, ways_of}

-- ---- what a router announces into an area

-- a live LSA of a router
abbrev pub is_live_of : RouterId → List ℕ → Bool
is_live_of router lsa = is_live lsa && same_router (originator_of lsa) router

-- the prefix of a live summary-LSA of a router
abbrev pub announced_net : RouterId → List ℕ → Option Net
announced_net router lsa = if is_live_of router lsa then net_of_summary lsa else None

-- the AS boundary router of one of type 4
abbrev pub announced_asbr : RouterId → List ℕ → Option RouterId
announced_asbr router lsa = if is_live_of router lsa then asbr_named lsa else None

-- the prefixes that a router announces by some LSAs, in order
abbrev pub announced_nets : RouterId → List (List ℕ) → List Net
announced_nets router lsas = rising prefix_cmp (filter_map (announced_net router) lsas)

-- the AS boundary routers that it announces, in order
abbrev pub announced_asbrs : RouterId → List (List ℕ) → List RouterId
announced_asbrs router lsas = rising router_cmp (filter_map (announced_asbr router) lsas)

-- one of some prefixes is not that of the default destination
abbrev pub any_not_default : List Net → Bool
any_not_default nets = list_any (λ net. not (is_default net)) nets

-- ---- what is missing

-- what the summary-LSA of a prefix is called
abbrev pub net_name : AreaId → RouterId → Net → LsaName
net_name area router net = record { area = Some area; key = record { kind = summary_lsa; id = net.addr; adv = router }; net = Some net }

-- what that of an AS boundary router is called
abbrev pub asbr_name : AreaId → RouterId → RouterId → LsaName
asbr_name area router asbr = record { area = Some area; key = record { kind = asbr_summary_lsa; id = record { 0 = asbr.0 }; adv = router }; net = None }

-- the metric for a cost below LSInfinity
abbrev pub announced_metric : ℕ → Option ℕ
announced_metric cost = if nat_lt cost ls_infinity then Some cost else None

-- a route inside the AS that is announced into an area, to a prefix that is not among these
abbrev pub is_missing_net : AreaId → List Net → RouteValue → Bool
is_missing_net area nets r = not (has_net nets r.net) && is_announced_route area r

-- the summary-LSA of this name, which is not there, with the metric for a cost
abbrev pub missing_at : LsaName → ℕ → Option PlaceValue
missing_at name cost = option_map (not_there name) (announced_metric cost)

module _ (area : AreaId) (router : RouterId) where
  abbrev pub missing_net : List Net → RouteValue → Option PlaceValue
  missing_net nets r = if is_missing_net area nets r then missing_at (net_name area router r.net) r.cost else None

  -- the way to an AS boundary router, if it is announced into the area
  abbrev pub asbr_by : EntryValue → Option PlaceValue
  asbr_by e = if is_announced_entry area e then missing_at (asbr_name area router e.router) e.cost else None

  -- the preferred way to an AS boundary router that is not among these
  abbrev pub missing_asbr : List RouterId → List EntryValue → RouterId → Option PlaceValue
  missing_asbr asbrs entries asbr = if has_router asbrs asbr then None else option_and_then asbr_by (preferred entries asbr)

-- the AS boundary routers that have an entry, in order
abbrev pub asbrs_of : List EntryValue → List RouterId
asbrs_of entries = rising router_cmp (map (λ e. e.router) (filter (λ e. is_asbr_kind e.kind) entries))

module _ (area : AreaId) (w : WaysValue) (nets : List Net) where
  -- the prefixes that a router does not announce into an area, where it announces these, in order
  abbrev pub missing_nets : List PlaceValue
  missing_nets = filter_map (missing_net area w.router nets) w.routes

  -- into a stub area a router may announce its default route alone, and then nothing is missing
  abbrev pub missing_in_stub : List PlaceValue
  missing_in_stub = if any_not_default nets then missing_nets else []

module _ (area : AreaId) (w : WaysValue) (lsas : List (List ℕ)) where
  -- the AS boundary routers that it does not announce, in order
  abbrev pub missing_asbrs : List PlaceValue
  missing_asbrs = filter_map (missing_asbr area w.router (announced_asbrs w.router lsas) w.entries) (asbrs_of w.entries)

  -- by the LSAs of an area; into a stub area a router announces no AS boundary routers
  abbrev pub missing_by_kind : Bool → List PlaceValue
  missing_by_kind is_stub =
      let nets = announced_nets w.router lsas in
      if is_stub then missing_in_stub area w nets else missing_nets area w nets ++ missing_asbrs

-- what a router does not announce into an area where its router-LSA has bit B
abbrev pub missing_in : Lists → AreaHead → WaysValue → List PlaceValue
missing_in db area w =
    if has_bit_in db (id_of area) w.router bit_b then missing_by_kind (id_of area) w (lsas_of (Area (id_of area)) db) area.is_stub else []

-- what some routers do not announce into areas, by area
abbrev pub missing_among : Lists → List WaysValue → List AreaHead → List PlaceValue
missing_among db ways areas = flat_map (λ area. flat_map (missing_in db area) ways) areas

-- what border routers do not announce
abbrev pub missing_places : Lists → List PlaceValue
missing_places db = missing_among db (map (ways_of db) (border_routers db)) (areas_of db)

-- the same in the database that a refresh gives
abbrev pub summary_missing_places : Lists → List PlaceValue
summary_missing_places db = missing_places (refreshed db)
