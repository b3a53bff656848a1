-- The costs by the inter-area routes and entries of a router are those by the backbone summaries.
use Rattle.std.proofs.Common.{◌≡◌, ℕ, Bool, true, false, cond, List, [], ◌∷◌, filter, map, Option, Some, None, IfSome, refl, sym, ap, ◌∙◌, true≢false}
use Rattle.std.specs.Prelude.{◌&&◌, ◌||◌, ◌==◌, not, if◌then◌else◌}
use Rattle.std.specs.List.{list_any, cons_option}
use Rattle.std.specs.Cmp.{Equal-is, IsTotalOrder, unsigned_ties}
use Rattle.std.specs.Map.{lookup}
use Rattle.std.specs.Option.{option_and_then, option_map}
use Rattle.std.specs.Ordering.{eq_by_cmp, is_lt}
use Rattle.std.specs.declared.cmp.Ordering.{Ordering}
use Rattle.std.proofs.lemmas.Bool.{eq-eqb, eqb-true, or_parts}
use Rattle.lsa_codec.specs.LsTypes.{asbr_summary_lsa}
use Rattle.lsa_codec.specs.Areas.{is_backbone}
use Rattle.lsa_codec.specs.declared.address.AreaId.{AreaId}
use Rattle.lsa_codec.specs.declared.address.RouterId.{RouterId}
use Rattle.lsa_codec.specs.Fields.{kind_of}
use Rattle.lsa_codec.specs.Order.{prefix_cmp, router_cmp}
use Rattle.lsa_codec.specs.Prefix.{Net}
use Rattle.lsa_codec.specs.Views.{net_of_summary}
use Rattle.lsa_codec.proofs.OrderLemmas.{prefix_exact, prefix_total, router_exact, router_total}
use Rattle.area_graph.specs.Least.{least, lesser}
use Rattle.area_graph.specs.Rising.{rising}
use Rattle.best_ways.specs.Best.{way_of, way_to, ways_of}
use Rattle.best_ways.specs.Candidate.{Candidate}
use Rattle.area_routes.specs.Inter.{asbr_entry, announced_asbr, has_asbr, inter_entries, inter_routes, named_router, announced_network, same_router}
use Rattle.best_ways.specs.Routes.{has_route, route_of, route_to}
use Rattle.area_routes.specs.Values.{AreaResultValue, EntryValue}
use Rattle.best_ways.specs.Values.{RouteValue, WayValue}
use Rattle.best_ways.proofs.LookupLemmas.{entries_at, lookup_entries}
use Rattle.best_ways.proofs.RisingLemmas.{any_rising}
use Rattle.external_routes.specs.Choose.{is_asbr, is_intra, preference}
use Rattle.external_routes.specs.Summaries.{is_announced_entry, is_announced_route}
use Rattle.summary_metrics.specs.BackboneSummaries.{asbr_named, is_at, is_source, source_of, sources}
use Rattle.summary_metrics.specs.steps.AnnouncedCosts.{announced_cost}
use Rattle.summary_metrics.proofs.AnnouncedWays.{and_false, candidates, way_apart, way_cost}

-- ---- ways in order of their keys

module _ {K : Type 0} {R : K → K → Ordering} (total : IsTotalOrder R) (cs : List (Candidate K)) (q : K) where
  none_of_key : (xs : List (Candidate K)) → list_any (eq_by_cmp R q) (map (λ c. c.key) xs) ≡ false → filter (λ c. eq_by_cmp R q c.key) xs ≡ []
  none_of_key [] h = refl
  none_of_key (x ∷ xs) h =
      let parts = or_parts (eq_by_cmp R q x.key) (list_any (eq_by_cmp R q) (map (λ c. c.key) xs)) h in
      ap (λ b. cond b (x ∷ filter (λ c. eq_by_cmp R q c.key) xs) (filter (λ c. eq_by_cmp R q c.key) xs)) parts.0 ∙ none_of_key xs parts.1

  -- each key of a candidate is there
  way_there : cond (list_any (eq_by_cmp R q) (rising R (map (λ c. c.key) cs))) (way_to R cs q) None ≡ way_to R cs q
  way_there =
      ap (λ b. cond b (way_to R cs q) None) (any_rising total q (map (λ c. c.key) cs)) ∙ by (list_any (eq_by_cmp R q) (map (λ c. c.key) cs)) refl
    where
      by : (b : Bool) → list_any (eq_by_cmp R q) (map (λ c. c.key) cs) ≡ b → cond b (way_to R cs q) None ≡ way_to R cs q
      by true h = refl
      by false h = sym (ap way_of (none_of_key cs h))

-- ---- prefixes

-- a route by its way
route_by : (q : Net) (ways : List (Net × WayValue)) (announce : RouteValue → Option ℕ) (cost : WayValue → Option ℕ)
    → ((net : Net) (w : WayValue) → announce (route_of (net, w)) ≡ cost w)
    → option_and_then announce (route_to (map route_of ways) q) ≡ option_and_then cost (lookup (eq_by_cmp prefix_cmp q) ways)
route_by q [] announce cost same = refl
route_by q (w ∷ ways) announce cost same = by (eq_by_cmp prefix_cmp q w.0) (route_by q ways announce cost same)
  where
    by : (b : Bool) → option_and_then announce (route_to (map route_of ways) q) ≡ option_and_then cost (lookup (eq_by_cmp prefix_cmp q) ways)
        → option_and_then announce (cond b (Some (route_of w)) (route_to (map route_of ways) q))
        ≡ option_and_then cost (cond b (Some w.1) (lookup (eq_by_cmp prefix_cmp q) ways))
    by true rest = same w.0 w.1
    by false rest = rest

module _ (router : RouterId) (area : AreaResultValue) (lsas : List (List ℕ)) where
  net_alike : (intra : List RouteValue) (q : Net) → has_route intra q ≡ false → (lsa : List ℕ)
      → is_at prefix_cmp q (announced_network intra lsa) ≡ is_at prefix_cmp q (net_of_summary lsa)
  net_alike intra q none lsa = by (net_of_summary lsa)
    where
      known : (n : Net) (b same : Bool) → has_route intra n ≡ b → eq_by_cmp prefix_cmp q n ≡ same
          → is_at prefix_cmp q (if b then None else Some n) ≡ eq_by_cmp prefix_cmp q n
      known n false same h e = refl
      known n true false h e = sym e
      known n true true h e = absurd (true≢false (sym h ∙ sym (ap (has_route intra) (prefix_exact q n ((Equal-is (prefix_cmp q n)).0 e))) ∙ none))

      by : (o : Option Net) → is_at prefix_cmp q (option_and_then (λ net. if has_route intra net then None else Some net) o) ≡ is_at prefix_cmp q o
      by None = refl
      by (Some n) = known n (has_route intra n) (eq_by_cmp prefix_cmp q n) refl refl

  abbrev net_candidates : List RouteValue → List (Candidate Net)
  net_candidates intra = candidates prefix_cmp router area (announced_network intra) lsas

  -- the cost of the inter-area route to a prefix without an intra-area route, into an area that is not the backbone
  module _ (into : AreaId) (apart : (area.area.0 == into.0) ≡ false) (outside : is_backbone into ≡ false) where
    abbrev announced : RouteValue → Option ℕ
    announced r = if is_announced_route into r then Some r.cost else None

    abbrev through : WayValue → Bool
    through w = list_any (λ a. a.0 == into.0) w.areas

    abbrev cost_into : WayValue → Option ℕ
    cost_into w = if not (through w) && (not (is_backbone into) || is_intra w.rank.path) then Some w.rank.cost else None

    cost_by_way : (o : Option WayValue) → IfSome o (λ w. through w ≡ false) → option_and_then cost_into o ≡ option_map (λ w. w.rank.cost) o
    cost_by_way None h = refl
    cost_by_way (Some w) h = λ i. if not (h i) && (not (outside i) || is_intra w.rank.path) then Some w.rank.cost else None

    pub inter_cost : (intra : List RouteValue) (q : Net) → has_route intra q ≡ false
        → option_and_then announced (route_to (inter_routes router area intra lsas) q) ≡ announced_cost router area.entries (sources prefix_cmp net_of_summary lsas q)
    inter_cost intra q none =
        let cs = net_candidates intra in
        let way = way_to prefix_cmp cs in
        route_by q (ways_of prefix_cmp cs) announced cost_into (λ net w. refl)
        ∙ ap (option_and_then cost_into)
        (lookup_entries prefix_cmp prefix_exact way (rising prefix_cmp (map (λ c. c.key) cs)) q ∙ way_there prefix_total cs q)
        ∙ cost_by_way (way q) (way_apart prefix_cmp router area (λ a. a.0 == into.0) apart (announced_network intra) lsas q)
        ∙ way_cost prefix_cmp router area q (announced_network intra) net_of_summary (net_alike intra q none) lsas

-- ---- AS boundary routers

eqb_swap : (a b : ℕ) → (a == b) ≡ (b == a)
eqb_swap a b = by (a == b) (b == a) refl refl
  where
    by : (x y : Bool) → (a == b) ≡ x → (b == a) ≡ y → x ≡ y
    by true true h k = refl
    by false false h k = refl
    by true false h k = sym (eq-eqb b a (sym (eqb-true a b h))) ∙ k
    by false true h k = sym h ∙ eq-eqb a b (sym (eqb-true b a k))

tie : (q k : RouterId) → same_router k q ≡ eq_by_cmp router_cmp q k
tie q k = eqb_swap k.0 q.0 ∙ unsigned_ties q.0 k.0

module _ (area : AreaId) (f : RouterId → Option WayValue) (q : RouterId) where
  abbrev entry_at : RouterId → WayValue → EntryValue
  entry_at k w = asbr_entry area (k, w)

  abbrev least_of : List (RouterId × WayValue) → Option EntryValue
  least_of es = least preference (filter (is_asbr q) (map (asbr_entry area) es))

  one_entry : (x : EntryValue) (b : Bool) → lesser preference x (cond b (Some x) None) ≡ x
  one_entry x false = refl
  one_entry x true = by (is_lt (preference x x))
    where
      by : (c : Bool) → cond c x x ≡ x
      by true = refl
      by false = refl

  -- among the entries by ways, the only one of a router is that by the way to it
  least_entry : (ks : List RouterId) → least_of (entries_at router_cmp f ks) ≡ option_map (entry_at q) (cond (list_any (eq_by_cmp router_cmp q) ks) (f q) None)
  least_entry [] = refl
  least_entry (k ∷ ks) = by (eq_by_cmp router_cmp q k) (f k) refl refl (least_entry ks)
    where
      rest_of : Option WayValue → Option EntryValue
      rest_of o = option_map (entry_at q) (cond (list_any (eq_by_cmp router_cmp q) ks) o None)

      of_same : eq_by_cmp router_cmp q k ≡ true → q ≡ k
      of_same e = router_exact q k ((Equal-is (router_cmp q k)).0 e)

      none_left : (b : Bool) → option_map (entry_at q) (cond b None None) ≡ None
      none_left true = refl
      none_left false = refl

      some_left : (b : Bool) (v : WayValue) → option_map (entry_at q) (cond b (Some v) None) ≡ cond b (Some (entry_at q v)) None
      some_left true v = refl
      some_left false v = refl

      by : (b : Bool) (o : Option WayValue) → eq_by_cmp router_cmp q k ≡ b → f k ≡ o
          → least_of (entries_at router_cmp f ks) ≡ rest_of (f q)
          → least_of (cons_option (option_map (λ v. (k, v)) o) (entries_at router_cmp f ks))
          ≡ option_map (entry_at q) (cond (b || list_any (eq_by_cmp router_cmp q) ks) (f q) None)
      by true None e h rest =
          let none : f q ≡ None = ap f (of_same e) ∙ h in
          rest ∙ ap rest_of none ∙ none_left (list_any (eq_by_cmp router_cmp q) ks) ∙ sym (ap (option_map (entry_at q)) none)
      by false None e h rest = rest
      by true (Some v) e h rest =
          let found : f q ≡ Some v = ap f (of_same e) ∙ h in
          let others = filter (is_asbr q) (map (asbr_entry area) (entries_at router_cmp f ks)) in
          ap (λ b. least preference (cond b (entry_at k v ∷ others) others)) (tie q k ∙ e)
          ∙ ap (λ r. Some (lesser preference (entry_at r v) (least preference others))) (sym (of_same e))
          ∙ ap (λ o. Some (lesser preference (entry_at q v) o)) (rest ∙ ap rest_of found ∙ some_left (list_any (eq_by_cmp router_cmp q) ks) v)
          ∙ ap Some (one_entry (entry_at q v) (list_any (eq_by_cmp router_cmp q) ks)) ∙ sym (ap (option_map (entry_at q)) found)
      by false (Some v) e h rest =
          let others = filter (is_asbr q) (map (asbr_entry area) (entries_at router_cmp f ks)) in
          ap (λ b. least preference (cond b (entry_at k v ∷ others) others)) (tie q k ∙ e) ∙ rest

module _ (router : RouterId) (area : AreaResultValue) (lsas : List (List ℕ)) (q : RouterId) where
  abbrev asbr_candidates : List (Candidate RouterId)
  asbr_candidates = candidates router_cmp router area (announced_asbr router area) lsas

  asbr_way : least preference (filter (is_asbr q) (inter_entries router area lsas))
      ≡ option_map (λ w. asbr_entry area.area (q, w)) (way_to router_cmp asbr_candidates q)
  asbr_way =
      least_entry area.area (way_to router_cmp asbr_candidates) q (rising router_cmp (map (λ c. c.key) asbr_candidates))
      ∙ ap (option_map (λ w. asbr_entry area.area (q, w))) (way_there router_total asbr_candidates q)

  asbr_alike : same_router q router ≡ false → has_asbr area.entries q ≡ false → (lsa : List ℕ)
      → is_at router_cmp q (announced_asbr router area lsa) ≡ is_at router_cmp q (asbr_named lsa)
  asbr_alike other none lsa = by (kind_of lsa == asbr_summary_lsa)
    where
      n : RouterId
      n = named_router lsa

      wanted : Bool
      wanted = not (same_router n router) && not (has_asbr area.entries n)

      at : (same announces : Bool) → eq_by_cmp router_cmp q n ≡ same → wanted ≡ announces → is_at router_cmp q (if announces then Some n else None) ≡ eq_by_cmp router_cmp q n
      at same true e h = refl
      at false false e h = sym e
      at true false e h =
          let is : q ≡ n = router_exact q n ((Equal-is (router_cmp q n)).0 e) in
          absurd (true≢false (sym (λ i. not (other i) && not (none i)) ∙ ap (λ r. not (same_router r router) && not (has_asbr area.entries r)) is ∙ h))

      by : (b : Bool) → is_at router_cmp q (if b && wanted then Some n else None) ≡ is_at router_cmp q (if b then Some n else None)
      by false = refl
      by true = at (eq_by_cmp router_cmp q n) wanted refl refl

  asbr_unsaid : (same_router q router || has_asbr area.entries q) ≡ true → (lsa : List ℕ) → is_at router_cmp q (announced_asbr router area lsa) ≡ false
  asbr_unsaid known lsa = by (kind_of lsa == asbr_summary_lsa)
    where
      n : RouterId
      n = named_router lsa

      wanted : Bool
      wanted = not (same_router n router) && not (has_asbr area.entries n)

      neither : (a b : Bool) → (not a && not b) ≡ true → (a || b) ≡ false
      neither false false h = refl
      neither true b h = absurd (true≢false (sym h))
      neither false true h = absurd (true≢false (sym h))

      at : (same announces : Bool) → eq_by_cmp router_cmp q n ≡ same → wanted ≡ announces → is_at router_cmp q (if announces then Some n else None) ≡ false
      at same false e h = refl
      at false true e h = e
      at true true e h =
          let is : q ≡ n = router_exact q n ((Equal-is (router_cmp q n)).0 e) in
          absurd (true≢false (sym known ∙ ap (λ r. same_router r router || has_asbr area.entries r) is
          ∙ neither (same_router n router) (has_asbr area.entries n) h))

      by : (b : Bool) → is_at router_cmp q (if b && wanted then Some n else None) ≡ false
      by false = refl
      by true = at (eq_by_cmp router_cmp q n) wanted refl refl

  none_named : (ls : List (List ℕ)) → sources router_cmp (λ _. None) ls q ≡ []
  none_named [] = refl
  none_named (lsa ∷ ls) =
      ap (λ b. map source_of (cond b (lsa ∷ filter (λ l. is_source l && false) ls) (filter (λ l. is_source l && false) ls))) (and_false (is_source lsa))
      ∙ none_named ls

  -- for the router itself, or for one that the area has, there is no cost by the summaries
  pub asbr_none : (same_router q router || has_asbr area.entries q) ≡ true → least preference (filter (is_asbr q) (inter_entries router area lsas)) ≡ None
  asbr_none known =
      asbr_way ∙ by (way_to router_cmp asbr_candidates q)
      (way_cost router_cmp router area q (announced_asbr router area) (λ _. None) (asbr_unsaid known) lsas ∙ ap (announced_cost router area.entries) (none_named lsas))
    where
      by : (o : Option WayValue) → option_map (λ w. w.rank.cost) o ≡ None → option_map (λ w. asbr_entry area.area (q, w)) o ≡ None
      by None h = refl
      by (Some w) h = absurd cc

  -- the cost of the entry of another router that the area lacks, into an area that is not the backbone
  pub asbr_inter_cost : (into : AreaId) → (area.area.0 == into.0) ≡ false → is_backbone into ≡ false
      → same_router q router ≡ false → has_asbr area.entries q ≡ false
      → option_and_then (λ e. if is_announced_entry into e then Some e.cost else None) (least preference (filter (is_asbr q) (inter_entries router area lsas)))
      ≡ announced_cost router area.entries (sources router_cmp asbr_named lsas q)
  asbr_inter_cost into apart outside other none =
      ap (option_and_then (λ e. if is_announced_entry into e then Some e.cost else None)) asbr_way
      ∙ by (way_to router_cmp asbr_candidates q)
      ∙ way_cost router_cmp router area q (announced_asbr router area) asbr_named (asbr_alike other none) lsas
    where
      by : (o : Option WayValue)
          → option_and_then (λ e. if is_announced_entry into e then Some e.cost else None) (option_map (λ w. asbr_entry area.area (q, w)) o)
          ≡ option_map (λ w. w.rank.cost) o
      by None = refl
      by (Some w) = λ i. if not (apart i) && (not (outside i) || false) then Some w.rank.cost else None
