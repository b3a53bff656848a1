-- Where the used candidates of a route lead within areas (RFC 2328, 16.1 to 16.4.1).
use Rattle.std.specs.Prelude.{ℕ, ◌==◌, ◌&&◌, ◌||◌, Bool, false, if◌then◌else◌, List, [], ◌∷◌, Option, None, Some}
use Rattle.std.specs.List.{cons_option, filter_map, flat_map}
use Rattle.std.specs.Option.{option_and_then, option_map_or}
use Rattle.lsa_codec.specs.declared.address.AreaId.{AreaId}
use Rattle.lsa_codec.specs.Fields.{kind_of}
use Rattle.lsa_codec.specs.LsTypes.{asbr_summary_lsa, external_lsa, network_lsa, router_lsa, summary_lsa}
use Rattle.lsa_codec.specs.Prefix.{Net}
use Rattle.lsa_codec.specs.Views.{forward_of}
use Rattle.area_graph.specs.declared.vertex.Vertex.TheVariants.{Router, Network}
use Rattle.area_routes.specs.Inter.{named_router, originator_of, same_router}
use Rattle.area_routes.specs.Values.{EntryValue}
use Rattle.area_routes.specs.declared.entry.EntryKind.{EntryKind}
use Rattle.area_routes.specs.declared.entry.EntryKind.TheVariants.{Border, AsbrIntra, AsbrInter}
use Rattle.best_ways.specs.Values.{RouteValue}
use Rattle.external_routes.specs.Choose.{forward_match, preferred}
use Rattle.external_routes.specs.External.{forward_address}
use Rattle.lsa_names.specs.LsaNames.{lsa_name}
use Rattle.lsa_names.specs.declared.lsa_name.LsaName.{LsaName}
use Rattle.route_candidates.specs.declared.candidate.Candidate.{Candidate}
use Rattle.area_candidates.specs.declared.draft.Standing.{Standing}
use Rattle.area_candidates.specs.declared.draft.Standing.TheVariants.{Out, Left}
use Rattle.route_candidates.specs.declared.target.Target.{Target}
use Rattle.area_candidates.specs.Between.{judged_examined}
use Rattle.route_candidates.specs.Candidates.{candidates}
use Rattle.route_candidates.specs.Decided.{is_used}
use Rattle.area_candidates.specs.InOrder.{found_at}
use Rattle.area_candidates.specs.Views.{AreaViewValue, area_views, lsas_in}
use Rattle.route_candidates.specs.RouterViews.{InsideValue, RouterViewValue, inside_of}

-- ---- candidates inside the AS

-- the network of a network-LSA, the router of a stub link, or the area border router of a summary-LSA
abbrev pub target_in : LsaName → AreaId → Option Target
target_in lsa area =
    if lsa.key.kind == network_lsa then Some (record { area = area; vertex = Network lsa.key.id; by = Some lsa }) else
    if (lsa.key.kind == router_lsa) || (lsa.key.kind == summary_lsa) then Some (record { area = area; vertex = Router lsa.key.adv; by = Some lsa })
    else None

abbrev pub inside_target : Candidate → Option Target
inside_target c = if is_used c then option_and_then (target_in c.lsa) c.lsa.area else None

-- those of a route inside the AS
abbrev pub inside_targets : RouterViewValue → Net → List Target
inside_targets view net = filter_map inside_target (candidates view net)

-- ---- ways to AS boundary routers

-- a candidate is left, at this cost
abbrev pub costs : ℕ → Standing → Bool
costs cost (Out r) = false
costs cost (Left rank) = rank.cost == cost

-- the area border router of a summary-LSA of type 4 for an AS boundary router, if it gives the cost of this entry (16.2)
abbrev pub border_target : AreaViewValue → EntryValue → List ℕ → Option Target
border_target view entry lsa =
    if (kind_of lsa == asbr_summary_lsa) && (same_router (named_router lsa) entry.router && costs entry.cost (judged_examined false view lsa).standing)
    then Some (record { area = view.area; vertex = Router (originator_of lsa); by = Some (lsa_name (Some view.area) lsa) }) else None

-- those of the entry's area
abbrev pub border_targets_in : EntryValue → AreaViewValue → List Target
border_targets_in entry view = if view.area.0 == entry.area.0 then filter_map (border_target view entry) (lsas_in view) else []

-- an AS boundary router of an area is a target itself, and one of another area has border routers
abbrev pub targets_by_kind : List AreaViewValue → EntryValue → EntryKind → List Target
targets_by_kind views entry Border = []
targets_by_kind views entry AsbrIntra = record { area = entry.area; vertex = Router entry.router; by = None } ∷ []
targets_by_kind views entry AsbrInter = flat_map (border_targets_in entry) views

abbrev pub boundary_targets : List AreaViewValue → EntryValue → List Target
boundary_targets views entry = targets_by_kind views entry entry.kind

-- ---- external candidates

abbrev pub forward_targets : RouterViewValue → Option RouteValue → List Target
forward_targets view None = []
forward_targets view (Some route) = inside_targets view route.net

-- over the preferred way to the AS boundary router, or over the route to the forwarding address
abbrev pub targets_over : RouterViewValue → InsideValue → List ℕ → Option EntryValue → List Target
targets_over view inside lsa None = []
targets_over view inside lsa (Some entry) =
    if forward_of lsa == 0 then boundary_targets (area_views view.db view.router) entry
    else forward_targets view (forward_match inside.routes (forward_address lsa))

abbrev pub external_targets : RouterViewValue → List ℕ → List Target
external_targets view lsa =
    targets_over view (inside_of view.db view.router) lsa (preferred (inside_of view.db view.router).routers (originator_of lsa))

-- ---- a route

-- the targets of a candidate, if it is used
abbrev pub targets_of_one : RouterViewValue → Candidate → List Target
targets_of_one view c =
    if is_used c && (c.lsa.key.kind == external_lsa) then option_map_or (λ found. external_targets view found.lsa) (found_at view.db c.lsa.area c.lsa.key) []
    else cons_option (inside_target c) []

-- the targets of candidates: the networks and routers whose LSAs have the prefix at the least cost, the border routers of the
-- summary-LSAs, or what the used AS-external-LSAs lead to
abbrev pub targets_of : RouterViewValue → List Candidate → List Target
targets_of view cs = flat_map (targets_of_one view) cs

-- the targets of a router's route to a prefix
abbrev pub route_targets : RouterViewValue → Net → List Target
route_targets view net = targets_of view (candidates view net)
