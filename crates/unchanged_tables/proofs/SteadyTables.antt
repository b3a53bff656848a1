-- The routing table of a router stays through steady changes of the database.
use Rattle.std.proofs.Common.{◌≡◌, ◌⊎◌, ℕ, Bool, true, false, cond, not, List, [], ◌∷◌, ◌++◌, map, Option, Some, None, refl, sym, ap, ◌∙◌, inl, inr, true≢false}
use Rattle.std.specs.Prelude.{◌||◌, ◌&&◌, ◌==◌, if◌then◌else◌, nat_lt}
use Rattle.std.specs.List.{AllZip, cons_option, filter, filter_map, list_any}
use Rattle.std.specs.Option.{option_and_then, option_map}
use Rattle.std.proofs.lemmas.Bool.{and_parts, eqb-true, or_cases}
use Rattle.lsa_codec.specs.declared.address.AreaId.{AreaId}
use Rattle.lsa_codec.specs.declared.address.RouterId.{RouterId}
use Rattle.lsa_codec.specs.Fields.{kind_of}
use Rattle.lsa_codec.specs.Order.{router_cmp}
use Rattle.lsa_codec.specs.Prefix.{Net}
use Rattle.lsa_codec.specs.Views.{ls_infinity, metric_of}
use Rattle.lsdb.specs.declared.section.Section.TheVariants.{Area}
use Rattle.lsdb.specs.Lists.{AreaHead, IsDatabase, Lists, areas_of, lsas_of}
use Rattle.area_graph.specs.Area.{is_live, is_network_lsa, is_router_lsa}
use Rattle.area_graph.proofs.GraphLemmas.{are_of_area}
use Rattle.area_routes.specs.Attached.{attached_areas, is_attached}
use Rattle.best_ways.specs.Best.{ways_of}
use Rattle.best_ways.specs.Candidate.{Candidate}
use Rattle.area_routes.specs.Inter.{asbr_candidate, asbr_entry, announced_asbr, border_of, by_border, candidate_to, entries_by, entries_of_all, examined}
use Rattle.area_routes.specs.Inter.{inter_entries, inter_of, inter_routes, is_summary, network_candidate, announced_network, originator_of, routes_by, same_router}
use Rattle.area_routes.specs.Intra.{intra_of}
use Rattle.best_ways.specs.Routes.{routes_of}
use Rattle.area_routes.specs.Values.{AreaResultValue, EntryValue, InterValue}
use Rattle.best_ways.specs.Values.{RouteValue}
use Rattle.external_routes.specs.External.{external_candidate, externals_of}
use Rattle.routing_table.specs.Preferring.{preferring}
use Rattle.routing_table.specs.Tables.{inside, inter_result, result_in, results_in, routes_from, table_by, table_in}
use Rattle.unchanged_tables.specs.Slack.{DistanceOf, IsSteadyLsa}
use Rattle.unchanged_tables.specs.Steady.{AreSteady, IsElsewhere, distances_from, is_foreign}
use Rattle.unchanged_tables.proofs.SteadyResults.{steady_result}
use Rattle.unchanged_tables.proofs.SteadySections.{IsSteadyArea, area_steady, as_wide_stays, attached_stay}

-- ---- LSAs that are no summary-LSAs

-- the same, or no summary-LSA before and after
abbrev AnnouncesTheSame : List ℕ → List ℕ → Type 0
AnnouncesTheSame old new = (new ≡ old) ⊎ ((is_summary old ≡ false) × (is_summary new ≡ false))

no_summary : (lsa : List ℕ) → (is_router_lsa lsa || is_network_lsa lsa) ≡ true → is_summary lsa ≡ false
no_summary lsa h = by (or_cases (is_router_lsa lsa) (is_network_lsa lsa) h)
  where
    by : (is_router_lsa lsa ≡ true) ⊎ (is_network_lsa lsa ≡ true) → is_summary lsa ≡ false
    by (inl e) = ap (λ k. (k == 3) || (k == 4)) (eqb-true (kind_of lsa) 1 e)
    by (inr e) = ap (λ k. (k == 3) || (k == 4)) (eqb-true (kind_of lsa) 2 e)

of_router : (lsa : List ℕ) → is_router_lsa lsa ≡ true → is_summary lsa ≡ false
of_router lsa h = no_summary lsa (ap (λ b. b || is_network_lsa lsa) h)

of_foreign : (router : RouterId) (lsa : List ℕ) → is_foreign router lsa ≡ true → is_summary lsa ≡ false
of_foreign router lsa h = no_summary lsa (and_parts (is_router_lsa lsa || is_network_lsa lsa) _ h).0

all_announce : (R : List ℕ → List ℕ → Type 0) → ((old new : List ℕ) → R old new → AnnouncesTheSame old new)
    → (olds news : List (List ℕ)) → AllZip R olds news → AllZip AnnouncesTheSame olds news
all_announce R announces [] [] h = tt
all_announce R announces [] (y ∷ ys) h = absurd h
all_announce R announces (x ∷ xs) [] h = absurd h
all_announce R announces (x ∷ xs) (y ∷ ys) h = (announces x y h.0, all_announce R announces xs ys h.1)

steady_announces : (distance : DistanceOf) (old new : List ℕ) → (new ≡ old) ⊎ IsSteadyLsa distance old new → AnnouncesTheSame old new
steady_announces distance old new (inl e) = inl e
steady_announces distance old new (inr s) = inr (of_router old s.was_router, of_router new s.is_router)

elsewhere_announces : (router : RouterId) (old new : List ℕ) → IsElsewhere router old new → AnnouncesTheSame old new
elsewhere_announces router old new (inl e) = inl e
elsewhere_announces router old new (inr (f, g)) = inr (of_foreign router old f, of_foreign router new g)

area_announces : (router : RouterId) (olds news : List (List ℕ)) → IsSteadyArea router olds news → AllZip AnnouncesTheSame olds news
area_announces router olds news (inl steady) =
    all_announce (λ old new. (new ≡ old) ⊎ IsSteadyLsa (distances_from router olds) old new) (steady_announces (distances_from router olds)) olds news steady
area_announces router olds news (inr (apart, elsewhere)) = all_announce (IsElsewhere router) (elsewhere_announces router) olds news elsewhere

-- what is made of summary-LSAs alone
announced_same : {X : Type 0} (f : List ℕ → Option X) → ((lsa : List ℕ) → is_summary lsa ≡ false → f lsa ≡ None)
    → (olds news : List (List ℕ)) → AllZip AnnouncesTheSame olds news → filter_map f news ≡ filter_map f olds
announced_same f silent [] [] h = refl
announced_same f silent [] (y ∷ ys) h = absurd h
announced_same f silent (x ∷ xs) [] h = absurd h
announced_same f silent (x ∷ xs) (y ∷ ys) h = λ i. cons_option (by h.0 i) (announced_same f silent xs ys h.1 i)
  where
    by : AnnouncesTheSame x y → f y ≡ f x
    by (inl e) = ap f e
    by (inr (old, new)) = silent y new ∙ sym (silent x old)

-- ---- summary-LSAs of an area

module _ (router : RouterId) (area : AreaResultValue) where
  no_candidate : {K : Type 0} (lsa : List ℕ) (key : Option K) → is_summary lsa ≡ false → option_and_then (candidate_to router area lsa) key ≡ None
  no_candidate lsa None h = refl
  no_candidate lsa (Some key) h =
      ap (λ b. option_and_then (λ metric. option_map (by_border key area.area metric) (border_of area.entries (originator_of lsa)))
      (if b && (is_live lsa && (nat_lt (metric_of lsa) ls_infinity && not (same_router (originator_of lsa) router))) then Some (metric_of lsa) else None)) h

  module _ (olds news : List (List ℕ)) (announces : AllZip AnnouncesTheSame olds news) where
    announced_routes : (intra : List RouteValue) → inter_routes router area intra news ≡ inter_routes router area intra olds
    announced_routes intra =
        ap (λ (cs : List (Candidate Net)). routes_of cs)
        (announced_same (network_candidate router area intra) (λ lsa h. no_candidate lsa (announced_network intra lsa) h) olds news announces)

    announced_entries : inter_entries router area news ≡ inter_entries router area olds
    announced_entries =
        ap (λ (cs : List (Candidate RouterId)). map (asbr_entry area.area) (ways_of router_cmp cs))
        (announced_same (asbr_candidate router area) (λ lsa h. no_candidate lsa (announced_asbr router area lsa) h) olds news announces)

-- ---- the table

-- what is made of the elements that pass
map_passed : {X Y : Type 0} (p : X → Bool) (f g : X → Y) → ((x : X) → p x ≡ true → f x ≡ g x) → (xs : List X) → map f (filter p xs) ≡ map g (filter p xs)
map_passed p f g same [] = refl
map_passed {X} p f g same (x ∷ xs) = by (p x) refl (map_passed p f g same xs)
  where
    by : (b : Bool) → p x ≡ b → map f (filter p xs) ≡ map g (filter p xs)
        → map f (cond b (x ∷ filter p xs) (filter p xs)) ≡ map g (cond b (x ∷ filter p xs) (filter p xs))
    by true e rest = λ i. same x e i ∷ rest i
    by false e rest = rest

module _ (router : RouterId) (olds news : Lists) (was : IsDatabase olds) (is : IsDatabase news) (steady : AreSteady router olds news) where
  result_stays : (head : AreaHead) → is_attached olds (record { 0 = head.id }) router ≡ true → result_in news router head ≡ result_in olds router head
  result_stays head attached = by (area_steady router (record { 0 = head.id }) olds news steady)
    where
      by : IsSteadyArea router (lsas_of (Area (record { 0 = head.id })) olds) (lsas_of (Area (record { 0 = head.id })) news)
          → result_in news router head ≡ result_in olds router head
      by (inl changes) =
          steady_result (record { 0 = head.id }) router (lsas_of (Area (record { 0 = head.id })) olds) (lsas_of (Area (record { 0 = head.id })) news)
          (are_of_area (record { 0 = head.id }) olds was).accepted (are_of_area (record { 0 = head.id }) news is).accepted changes
      by (inr (apart, elsewhere)) = absurd (true≢false (sym attached ∙ apart))

  results_stay : results_in news router (attached_areas olds router) ≡ results_in olds router (attached_areas olds router)
  results_stay =
      map_passed (λ (area : AreaHead). is_attached olds (record { 0 = area.id }) router)
      (result_in news router) (result_in olds router) result_stays (areas_of olds)

  announces : (area : AreaId) → AllZip AnnouncesTheSame (lsas_of (Area area) olds) (lsas_of (Area area) news)
  announces area = area_announces router (lsas_of (Area area) olds) (lsas_of (Area area) news) (area_steady router area olds news steady)

  routes_by_stay : (intra : List RouteValue) (o : Option AreaResultValue) → routes_by news router intra o ≡ routes_by olds router intra o
  routes_by_stay intra None = refl
  routes_by_stay intra (Some area) = announced_routes router area (lsas_of (Area area.area) olds) (lsas_of (Area area.area) news) (announces area.area) intra

  entries_by_stay : (o : Option AreaResultValue) → entries_by news router o ≡ entries_by olds router o
  entries_by_stay None = refl
  entries_by_stay (Some area) = announced_entries router area (lsas_of (Area area.area) olds) (lsas_of (Area area.area) news) (announces area.area)

  inter_stays : (results : List AreaResultValue) → inter_result news router results ≡ inter_result olds router results
  unfolding inter_of
  inter_stays results = λ i. record {
    routes = routes_by_stay (intra_of results) (examined results) i;
    routers = entries_of_all results ++ entries_by_stay (examined results) i;
  }

  externals_stay : (routes : List RouteValue) (entries : List EntryValue) → externals_of news router routes entries ≡ externals_of olds router routes entries
  unfolding externals_of
  externals_stay routes entries = λ i.
      routes_of (if list_any (λ (area : AreaHead). not area.is_stub) (attached_stay router olds news steady i)
      then filter_map (external_candidate router routes entries) (as_wide_stays router olds news steady i) else [])

  routes_stay : (results : List AreaResultValue) → routes_from news router results ≡ routes_from olds router results
  routes_stay results =
      ap (λ (inter : InterValue). preferring (preferring (intra_of results) inter.routes)
      (externals_of news router (preferring (intra_of results) inter.routes) inter.routers)) (inter_stays results)
      ∙ ap (λ (more : List RouteValue). preferring (inside olds router results) more)
      (externals_stay (inside olds router results) (inter_result olds router results).routers)

  by_areas : (areas : List AreaHead) → results_in news router areas ≡ results_in olds router areas → table_by news router areas ≡ table_by olds router areas
  by_areas [] same = refl
  by_areas (area ∷ areas) same =
      ap (λ (routes : List RouteValue). Some (record { router = router; routes = routes }))
      (ap (λ (results : List AreaResultValue). routes_from news router results) same ∙ routes_stay (results_in olds router (area ∷ areas)))

  pub table_stays : table_in news router ≡ table_in olds router
  unfolding table_in
  table_stays = ap (table_by news router) (attached_stay router olds news steady) ∙ by_areas (attached_areas olds router) results_stay
