-- The candidates between areas: summary-LSAs of a prefix (RFC 2328, 16.2).
use Rattle.std.specs.Prelude.{ℕ, ◌+◌, Bool, false, true, if◌then◌else◌, List, [], ◌∷◌, Option, None, Some, map, nat_lt, not}
use Rattle.std.specs.List.{flat_map}
use Rattle.std.specs.Option.{option_map_or}
use Rattle.lsa_codec.specs.Areas.{is_backbone}
use Rattle.lsa_codec.specs.LsTypes.{summary_lsa}
use Rattle.lsa_codec.specs.Prefix.{Net}
use Rattle.lsa_codec.specs.Views.{ls_infinity, metric_of}
use Rattle.lsa_codec.specs.declared.address.RouterId.{RouterId}
use Rattle.area_graph.specs.Area.{is_live}
use Rattle.area_graph.specs.declared.vertex.Vertex.TheVariants.{Router}
use Rattle.area_routes.specs.Entries.{bit_b, flags_of, has_bit}
use Rattle.area_routes.specs.Inter.{originator_of, same_router}
use Rattle.best_ways.specs.declared.rank.PathType.TheVariants.{Inter}
use Rattle.interfaces.specs.Routers.{router_lsa_of}
use Rattle.lsa_names.specs.LsaNames.{lsa_name}
use Rattle.area_candidates.specs.declared.draft.Draft.{Draft}
use Rattle.area_candidates.specs.declared.draft.Judged.{Judged}
use Rattle.area_candidates.specs.declared.rule.Rule.TheVariants as rule
use Rattle.area_candidates.specs.Drafts.{costing, left, out, out_at}
use Rattle.area_candidates.specs.InOrder.{FoundValue, lsas_in_order}
use Rattle.area_candidates.specs.Views.{AreaViewValue, distance_in}

-- one area alone
abbrev pub is_one : {X : Type 0} → List X → Bool
is_one [] = false
is_one (x ∷ []) = true
is_one (x ∷ y ∷ rest) = false

-- whether the summary-LSAs of an area are examined: of the only one of a router's areas, or of the backbone
abbrev pub is_examined : List AreaViewValue → AreaViewValue → Bool
is_examined views view = if is_one views then true else is_backbone view.area

-- whether a router calls itself an area border router in an area: bit B of its router-LSA
abbrev pub is_border : AreaViewValue → RouterId → Bool
is_border view router = option_map_or (λ lsa. has_bit bit_b (flags_of lsa)) (router_lsa_of view.db view.area router) false

-- over an area border router, where an intra-area candidate is used or not
abbrev pub judged_over : Bool → ℕ → ℕ → Judged
judged_over is_within metric d = if is_within then out_at d rule.IntraPreferred else left d (costing Inter (d + metric))

-- by a reached originator
abbrev pub judged_by : Bool → Bool → ℕ → Option ℕ → Judged
judged_by is_within is_abr metric None = out rule.BorderNotReached
judged_by is_within is_abr metric (Some d) = if is_abr then judged_over is_within metric d else out_at d rule.BorderWithoutBitB

-- a summary-LSA of a type that can name a border router, of an area that is examined or not
abbrev pub judged_examined : Bool → AreaViewValue → List ℕ → Judged
judged_examined is_within view lsa =
    if not (is_live lsa) then out rule.SummaryMaxAge else
    if not (nat_lt (metric_of lsa) ls_infinity) then out rule.SummaryInfinity else
    if same_router (originator_of lsa) view.router then out rule.SummaryItsOwn else
    judged_by is_within (is_border view (originator_of lsa)) (metric_of lsa) (distance_in view (Router (originator_of lsa)))

abbrev pub judged_summary : Bool → Bool → AreaViewValue → List ℕ → Judged
judged_summary is_within examined view lsa =
    if examined then judged_examined is_within view lsa else out rule.AreaNotExamined

abbrev pub summary_draft : Bool → Bool → AreaViewValue → FoundValue → Draft
summary_draft is_within examined view found = record {
  lsa = lsa_name found.area found.lsa;
  link = None;
  metric = metric_of found.lsa;
  judged = judged_summary is_within examined view found.lsa;
}

-- the summary-LSAs of an area with the prefix, by originator and Link State ID
abbrev pub drafts_between : Bool → List AreaViewValue → Net → AreaViewValue → List Draft
drafts_between is_within views net view =
    map (summary_draft is_within (is_examined views view) view) (lsas_in_order view.db (Some view.area) summary_lsa net)

-- those of all areas of a router, where an intra-area candidate is used or not
abbrev pub inter_drafts : Bool → List AreaViewValue → Net → List Draft
inter_drafts is_within views net = flat_map (drafts_between is_within views net) views
