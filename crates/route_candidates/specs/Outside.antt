-- The candidates outside the AS: AS-external-LSAs of a prefix (RFC 2328, 16.4).
use Rattle.std.specs.Prelude.{ℕ, ◌==◌, Bool, if◌then◌else◌, List, Option, None, Some, map, nat_lt, not}
use Rattle.lsa_codec.specs.LsTypes.{external_lsa}
use Rattle.lsa_codec.specs.Prefix.{Net}
use Rattle.lsa_codec.specs.Views.{forward_of, ls_infinity, metric_of}
use Rattle.area_graph.specs.Area.{is_live}
use Rattle.area_routes.specs.Inter.{originator_of, same_router}
use Rattle.area_routes.specs.Values.{EntryValue}
use Rattle.best_ways.specs.Values.{RouteValue}
use Rattle.external_routes.specs.Choose.{entry_class, forward_match, preferred, route_class}
use Rattle.external_routes.specs.External.{external_rank, forward_address}
use Rattle.external_routes.specs.Flooding.{is_attached_outside_stubs}
use Rattle.lsa_names.specs.LsaNames.{lsa_name}
use Rattle.area_candidates.specs.declared.draft.Draft.{Draft}
use Rattle.area_candidates.specs.declared.draft.Judged.{Judged}
use Rattle.area_candidates.specs.declared.rule.Rule.TheVariants as rule
use Rattle.area_candidates.specs.Drafts.{left, out, out_at}
use Rattle.area_candidates.specs.InOrder.{FoundValue, lsas_in_order}
use Rattle.route_candidates.specs.RouterViews.{InsideValue, RouterViewValue, inside_of}

-- over a way inside the AS of a class and a cost, where a candidate inside is used or not
abbrev pub judged_way : Bool → List ℕ → ℕ → ℕ → Judged
judged_way is_inside lsa class cost = if is_inside then out_at cost rule.InsidePreferred else left cost (external_rank lsa class cost)

-- over a route to the forwarding address
abbrev pub judged_forward : Bool → List ℕ → Option RouteValue → Judged
judged_forward is_inside lsa None = out rule.ForwardNotReached
judged_forward is_inside lsa (Some route) = judged_way is_inside lsa (route_class route) route.cost

-- over the preferred way to the AS boundary router (16.4.1), or over a route to the forwarding address, where it is not 0
abbrev pub judged_boundary : Bool → InsideValue → List ℕ → Option EntryValue → Judged
judged_boundary is_inside inside lsa None = out rule.BoundaryNotReached
judged_boundary is_inside inside lsa (Some entry) =
    if forward_of lsa == 0 then judged_way is_inside lsa (entry_class entry) entry.cost
    else judged_forward is_inside lsa (forward_match inside.routes (forward_address lsa))

-- an AS-external-LSA that is flooded to the router
abbrev pub judged_flooded : Bool → RouterViewValue → List ℕ → Judged
judged_flooded is_inside view lsa =
    if not (is_live lsa) then out rule.ExternalMaxAge else
    if not (nat_lt (metric_of lsa) ls_infinity) then out rule.ExternalInfinity else
    if same_router (originator_of lsa) view.router then out rule.ExternalItsOwn else
    judged_boundary is_inside (inside_of view.db view.router) lsa (preferred (inside_of view.db view.router).routers (originator_of lsa))

abbrev pub judged_external : Bool → RouterViewValue → List ℕ → Judged
judged_external is_inside view lsa =
    if is_attached_outside_stubs view.db view.router then judged_flooded is_inside view lsa else out rule.StubAreasAlone

abbrev pub external_draft : Bool → RouterViewValue → FoundValue → Draft
external_draft is_inside view found = record {
  lsa = lsa_name found.area found.lsa;
  link = None;
  metric = metric_of found.lsa;
  judged = judged_external is_inside view found.lsa;
}

-- the AS-external-LSAs with the prefix, by originator and Link State ID, where a candidate inside the AS is used or not
abbrev pub external_drafts : Bool → RouterViewValue → Net → List Draft
external_drafts is_inside view net = map (external_draft is_inside view) (lsas_in_order view.db None external_lsa net)
