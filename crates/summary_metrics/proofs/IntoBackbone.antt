-- What is announced into the backbone follows from the results of the originator's areas, without
-- summary-LSAs.
use Rattle.std.proofs.Common.{◌≡◌, ℕ, Bool, true, false, cond, List, [], ◌∷◌, ◌++◌, filter, map, Option, Some, None, IfSome, refl, sym, ap, ◌∙◌, ⊎_elim}
use Rattle.std.specs.Prelude.{◌==◌, ◌&&◌, ◌||◌, not}
use Rattle.std.specs.List.{All, filter_map, list_any}
use Rattle.std.specs.Option.{option_and_then, option_map, option_map_or, option_or}
use Rattle.std.proofs.lemmas.Bool.{eqb-true}
use Rattle.std.proofs.lemmas.List.Elements.{All-cons, All-filter, All-map, All-nil, filter-append}
use Rattle.lsa_codec.specs.Areas.{is_backbone}
use Rattle.lsa_codec.specs.LsTypes.{asbr_summary_lsa}
use Rattle.lsa_codec.specs.declared.address.AreaId.{AreaId}
use Rattle.lsa_codec.specs.declared.address.RouterId.{RouterId}
use Rattle.lsa_codec.specs.Fields.{kind_of}
use Rattle.lsa_codec.specs.Order.{prefix_cmp, router_cmp}
use Rattle.lsa_codec.specs.Prefix.{Net}
use Rattle.lsa_codec.specs.Views.{ls_infinity, net_of_summary}
use Rattle.lsdb.specs.declared.section.Section.TheVariants.{Area}
use Rattle.lsdb.specs.Lists.{Lists, lsas_of}
use Rattle.area_graph.specs.Least.{least}
use Rattle.area_routes.specs.declared.entry.EntryKind.TheVariants.{AsbrInter}
use Rattle.best_ways.specs.declared.rank.PathType.TheVariants.{Inter}
use Rattle.best_ways.specs.Best.{ways_of}
use Rattle.best_ways.specs.Candidate.{Candidate}
use Rattle.area_routes.specs.Inter.{asbr_candidate, asbr_entry, border_of, by_border, candidate_to, entries_by, entries_of_all, examined, inter_of, inter_routes}
use Rattle.area_routes.specs.Inter.{named_router, network_candidate, announced_network, originator_of, routes_by, usable_metric}
use Rattle.area_routes.specs.Intra.{intra_of}
use Rattle.best_ways.specs.Routes.{route_of, route_to}
use Rattle.area_routes.specs.Values.{AreaResultValue, EntryValue}
use Rattle.best_ways.specs.Values.{RouteValue, WayValue}
use Rattle.best_ways.proofs.WayLemmas.{All-filter_map, ways_have}
use Rattle.external_routes.specs.Choose.{is_asbr, is_asbr_intra, is_intra, preference}
use Rattle.external_routes.specs.Summaries.{asbr_of_summary, cost_of_asbr, cost_of_net, is_announced_entry, is_announced_route, metric_for}
use Rattle.routing_table.specs.Preferring.{preferring}
use Rattle.routing_table.proofs.PreferenceLemmas.{route_all, route_preferring}
use Rattle.area_routes.specs.AreaResults.{results_of}
use Rattle.summary_metrics.specs.Refreshed.{due_in}
use Rattle.summary_metrics.proofs.Outside.{IsInside, is_outside, least_alike}
use Rattle.summary_metrics.proofs.SameGraphs.{HaveSameGraphs, results_alike, stub_alike}

and_false : (b : Bool) → (b && false) ≡ false
and_false true = refl
and_false false = refl

-- ---- inter-area routes are of that type, and entries by summary-LSAs of that kind

module _ (router : RouterId) (area : AreaResultValue) where
  candidate_inter : {K : Type 0} (lsa : List ℕ) (key : K) → IfSome (candidate_to router area lsa key) (λ c. c.rank.path ≡ Inter)
  candidate_inter {K} lsa key = by (usable_metric router lsa) (border_of area.entries (originator_of lsa))
    where
      by : (metric : Option ℕ) (border : Option EntryValue)
          → IfSome (option_and_then (λ m. option_map (by_border key area.area m) border) metric) (λ (c : Candidate K). c.rank.path ≡ Inter)
      by None border = tt
      by (Some m) None = tt
      by (Some m) (Some b) = refl

  announced_inter : (lsa : List ℕ) (announced : Option Net) → IfSome (option_and_then (candidate_to router area lsa) announced) (λ c. c.rank.path ≡ Inter)
  announced_inter lsa None = tt
  announced_inter lsa (Some net) = candidate_inter lsa net

  all_inter : (intra : List RouteValue) (lsas : List (List ℕ)) → All (λ r. r.kind ≡ Inter) (inter_routes router area intra lsas)
  all_inter intra lsas =
      let cs : List (Candidate Net) = filter_map (network_candidate router area intra) lsas in
      All-map (λ r. r.kind ≡ Inter) route_of (ways_of prefix_cmp cs)
      (ways_have (λ r. r.path ≡ Inter) prefix_cmp cs
      (All-filter_map (λ (c : Candidate Net). c.rank.path ≡ Inter) (network_candidate router area intra) (λ lsa. announced_inter lsa (announced_network intra lsa)) lsas))

all_asbr_inter : (area : AreaId) (ways : List (RouterId × WayValue)) → All (λ e. e.kind ≡ AsbrInter) (map (asbr_entry area) ways)
all_asbr_inter area [] = All-nil (λ (e : EntryValue). e.kind ≡ AsbrInter)
all_asbr_inter area (way ∷ ways) =
    All-cons (λ (e : EntryValue). e.kind ≡ AsbrInter) (asbr_entry area way) (map (asbr_entry area) ways) refl (all_asbr_inter area ways)

module _ (db : Lists) (router : RouterId) where
  pub routes_inter : (intra : List RouteValue) (o : Option AreaResultValue) → All (λ r. r.kind ≡ Inter) (routes_by db router intra o)
  routes_inter intra None = All-nil (λ (r : RouteValue). r.kind ≡ Inter)
  routes_inter intra (Some area) = all_inter router area intra (lsas_of (Area area.area) db)

  pub entries_inter : (o : Option AreaResultValue) → All (λ e. e.kind ≡ AsbrInter) (entries_by db router o)
  entries_inter None = All-nil (λ (e : EntryValue). e.kind ≡ AsbrInter)
  entries_inter (Some area) = all_asbr_inter area.area (ways_of router_cmp (filter_map (asbr_candidate router area) (lsas_of (Area area.area) db)))

-- ---- neither is announced into the backbone

module _ (area : AreaId) (is : is_backbone area ≡ true) where
  -- the cost of a route where it is announced
  abbrev route_cost : RouteValue → Option ℕ
  route_cost r = cond (is_announced_route area r) (Some r.cost) None

  route_unannounced : (r : RouteValue) → r.kind ≡ Inter → is_announced_route area r ≡ false
  route_unannounced r h =
      let free : Bool = not (list_any (λ a. a.0 == area.0) r.areas) in
      (λ i. free && (not (is i) || is_intra (h i))) ∙ and_false free

  pub net_cost : (intra inter : List RouteValue) → All (λ r. r.kind ≡ Inter) inter → (net : Net)
      → cost_of_net area (preferring intra inter) net ≡ cost_of_net area intra net
  net_cost intra inter all net =
      ap (option_and_then route_cost) (route_preferring intra inter net)
      ∙ by (route_to intra net) (route_to inter net) (route_all (λ r. r.kind ≡ Inter) inter net all)
    where
      by : (o p : Option RouteValue) → IfSome p (λ r. r.kind ≡ Inter) → option_and_then route_cost (option_or o p) ≡ option_and_then route_cost o
      by (Some r) p h = refl
      by None None h = refl
      by None (Some r) h = ap (λ b. cond b (Some r.cost) None) (route_unannounced r h)

  abbrev entry_cost : EntryValue → Option ℕ
  entry_cost e = cond (is_announced_entry area e) (Some e.cost) None

  entry_unannounced : (e : EntryValue) → is_outside e ≡ false → is_announced_entry area e ≡ false
  entry_unannounced e h =
      (λ i. not (e.area.0 == eqb-true area.0 0 is i) && (not (is i) || is_asbr_intra e.kind)) ∙ by (is_asbr_intra e.kind) (is_backbone e.area) h
    where
      by : (intra bb : Bool) → (intra && not bb) ≡ false → (not bb && intra) ≡ false
      by true true k = refl
      by true false k = absurd cc
      by false true k = refl
      by false false k = refl

  inside_cost : (o : Option EntryValue) → IsInside o → option_and_then entry_cost o ≡ None
  inside_cost None h = refl
  inside_cost (Some e) h = ap (λ b. cond b (Some e.cost) None) (entry_unannounced e h)

  pub asbr_cost : (xs ys : List EntryValue) → All (λ e. e.kind ≡ AsbrInter) ys → (asbr : RouterId)
      → cost_of_asbr area (xs ++ ys) asbr ≡ cost_of_asbr area xs asbr
  asbr_cost xs ys all asbr =
      ap (λ es. option_and_then entry_cost (least preference es)) (filter-append (is_asbr asbr) xs ys)
      ∙ ⊎_elim (ap (option_and_then entry_cost)) (λ both. inside_cost _ both.0 ∙ sym (inside_cost _ both.1))
      (least_alike (filter (is_asbr asbr) xs) (filter (is_asbr asbr) ys) (All-filter (is_asbr asbr) (λ e. e.kind ≡ AsbrInter) ys all))

  -- ---- the metric

  -- the metric by the results of the originator's areas
  abbrev due_by : Lists → List ℕ → List AreaResultValue → ℕ
  due_by db lsa results =
      option_map_or metric_for
      (option_or (option_and_then (cost_of_net area (intra_of results)) (net_of_summary lsa))
      (option_and_then (cost_of_asbr area (entries_of_all results)) (asbr_of_summary db area lsa))) ls_infinity

  due_from_areas : (db : Lists) (lsa : List ℕ) → due_in db area lsa ≡ due_by db lsa (results_of db (originator_of lsa))
  unfolding due_in inter_of
  due_from_areas db lsa =
      let router : RouterId = originator_of lsa in
      let results : List AreaResultValue = results_of db router in
      λ i. option_map_or metric_for
      (option_or
      (option_and_then
      (λ net. net_cost (intra_of results) (routes_by db router (intra_of results) (examined results))
      (routes_inter db router (intra_of results) (examined results)) net i)
      (net_of_summary lsa))
      (option_and_then
      (λ asbr. asbr_cost (entries_of_all results) (entries_by db router (examined results)) (entries_inter db router (examined results)) asbr i)
      (asbr_of_summary db area lsa))) ls_infinity

  pub due_of_backbone : (db new : Lists) → HaveSameGraphs db new → (lsa : List ℕ) → due_in new area lsa ≡ due_in db area lsa
  due_of_backbone db new same lsa =
      due_from_areas new lsa
      ∙ (λ i. option_map_or metric_for
      (option_or (option_and_then (cost_of_net area (intra_of (results_alike db new same (originator_of lsa) i))) (net_of_summary lsa))
      (option_and_then (cost_of_asbr area (entries_of_all (results_alike db new same (originator_of lsa) i)))
      (cond ((kind_of lsa == asbr_summary_lsa) && not (stub_alike db new same area i)) (Some (named_router lsa)) None))) ls_infinity)
      ∙ sym (due_from_areas db lsa)
