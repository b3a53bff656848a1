-- The inter-area routes are the best of all ways over all area border routers.
use Rattle.std.proofs.Common.{◌≡◌, ℕ, Bool, true, false, cond, not, List, [], ◌∷◌, ◌++◌, map, suc, Option, None, Some, refl, sym, ap, subst, ◌∙◌}
use Rattle.std.proofs.Common.{arith, ⊎_elim, inl, inr, true≢false}
use Rattle.std.specs.Prelude.{◌&&◌}
use Rattle.std.specs.List.{AllPairs, cons_option, filter, filter_map, find, flat_map}
use Rattle.std.specs.Option.{option_and_then, option_map, option_map_or, option_to_list}
use Rattle.std.proofs.lemmas.Bool.{and_parts, eqb-true}
use Rattle.std.proofs.lemmas.List.Elements.{All-contains}
use Rattle.lsa_codec.specs.Areas.{is_backbone}
use Rattle.lsa_codec.specs.declared.address.AreaId.{AreaId}
use Rattle.lsa_codec.specs.declared.address.RouterId.{RouterId}
use Rattle.lsa_codec.specs.Order.{prefix_cmp}
use Rattle.lsa_codec.specs.Prefix.{Net}
use Rattle.lsdb.specs.declared.section.Section.TheVariants.{Area}
use Rattle.lsdb.specs.Lists.{AreaHead, IsDatabase, Lists, lsas_of}
use Rattle.area_graph.specs.Area.{is_router_lsa, used}
use Rattle.area_graph.proofs.MemberLemmas.{Contains-from_In, In, In-cases, In-left, Some-same, flat_map-In, map-In}
use Rattle.area_routes.specs.declared.entry.EntryKind.{EntryKind}
use Rattle.area_routes.specs.declared.entry.EntryKind.TheVariants.{Border, AsbrIntra, AsbrInter}
use Rattle.area_routes.specs.AreaResults.{area_result, results_of}
use Rattle.area_routes.specs.Attached.{attached_areas}
use Rattle.best_ways.specs.Best.{ways_of}
use Rattle.best_ways.specs.Candidate.{Candidate}
use Rattle.area_routes.specs.Entries.{bit_b, bit_e, entries_of, entry_by, flags_of, has_bit, reached_entry}
use Rattle.area_routes.specs.EntriesOnce.{IsSameWay, StandOnce}
use Rattle.area_routes.specs.Inter.{border_of, by_border, entries_by, entries_of_all, examined, inter_of, network_candidate, announced_network, originator_of, routes_by, same_kind, same_router, usable_metric}
use Rattle.best_ways.specs.InWords.{AreBestWays}
use Rattle.area_routes.specs.Reached.{ReachedValue, reached_from}
use Rattle.area_routes.specs.Stubs.{is_lsa_of}
use Rattle.area_routes.specs.Values.{AreaResultValue, EntryValue}
use Rattle.best_ways.specs.Values.{RouteValue}
use Rattle.routing_table.specs.AreaLsas.{lsas_in}
use Rattle.routing_table.specs.Tables.{result_in, results_in}
use Rattle.route_laws.specs.AllWays.{is_border_entry, ways_between, ways_by, ways_over}
use Rattle.route_laws.specs.BestRoutes.{AreBestRoutes}

-- ---- a list of which at most one member passes a test

-- the same as `AllPairs`, by recursion
abbrev Pairs : {X : Type 0} → (X → X → Type 0) → List X → Type 0
Pairs R [] = Unit {0}
Pairs R (x ∷ xs) = ((y : _) → In xs y → R x y) × Pairs R xs

module _ {X : Type 0} (R : X → X → Type 0) where
  pairs_from : (xs : List X) → AllPairs R xs → Pairs R xs
  pairs_from [] pairs = tt
  pairs_from (x ∷ xs) pairs = (
    λ y i. All-contains (R x) xs y (λ k d lt. pairs 0 (suc k) d (omega arith) (omega (arith, lt))) (Contains-from_In xs y i),
    pairs_from xs (λ i j d below lt. pairs (suc i) (suc j) d (omega (arith, below)) (omega (arith, lt))),
  )

  pairs_left : (xs ys : List X) → Pairs R (xs ++ ys) → Pairs R xs
  pairs_left [] ys pairs = tt
  pairs_left (x ∷ xs) ys pairs = (λ y i. pairs.0 y (In-left xs ys y i), pairs_left xs ys pairs.1)

  pairs_right : (xs ys : List X) → Pairs R (xs ++ ys) → Pairs R ys
  pairs_right [] ys pairs = pairs
  pairs_right (x ∷ xs) ys pairs = pairs_right xs ys pairs.1

pairs_within : {X Y : Type 0} (R : Y → Y → Type 0) (f : X → List Y) (xs : List X) (x : X) → In xs x → Pairs R (flat_map f xs) → Pairs R (f x)
pairs_within R f [] x i pairs = absurd i
pairs_within {X} R f (z ∷ xs) x (inl same) pairs = subst (λ (y : X). Pairs R (f y)) same (pairs_left R (f z) (flat_map f xs) pairs)
pairs_within R f (z ∷ xs) x (inr i) pairs = pairs_within R f xs x i (pairs_right R (f z) (flat_map f xs) pairs)

module _ {X : Type 0} (p : X → Bool) where
  none_passes : (xs : List X) → ((x : X) → In xs x → p x ≡ true → ⊥) → filter p xs ≡ []
  none_passes [] h = refl
  none_passes (x ∷ xs) h = by (p x) refl (none_passes xs (λ y i. h y (inr i)))
    where
      by : (b : Bool) → p x ≡ b → filter p xs ≡ [] → cond b (x ∷ filter p xs) (filter p xs) ≡ []
      by true is rest = absurd (h x (inl refl) is)
      by false is rest = rest

  -- those that pass are the one that is found
  found : (xs : List X) → Pairs (λ x y. p x ≡ true → p y ≡ true → ⊥) xs → filter p xs ≡ option_to_list (find p xs)
  found [] pairs = refl
  found (x ∷ xs) pairs = by (p x) refl (found xs pairs.1)
    where
      by : (b : Bool) → p x ≡ b → filter p xs ≡ option_to_list (find p xs)
          → cond b (x ∷ filter p xs) (filter p xs) ≡ option_to_list (cond b (Some x) (find p xs))
      by true is rest = ap (λ (ys : List X). x ∷ ys) (none_passes xs (λ y i yes. pairs.0 y i is yes))
      by false is rest = rest

  find-In : (xs : List X) (x : X) → find p xs ≡ Some x → In xs x
  find-In [] x h = absurd (cc)
  find-In (y ∷ ys) x h = by (p y) h (find-In ys x)
    where
      by : (b : Bool) → cond b (Some y) (find p ys) ≡ Some x → (find p ys ≡ Some x → In ys x) → In (y ∷ ys) x
      by true is rest = inl (Some-same is)
      by false is rest = inr (rest is)

module _ {X Y : Type 0} where
  map_option : (f : X → Y) (o : Option X) → map f (option_to_list o) ≡ option_to_list (option_map f o)
  map_option f None = refl
  map_option f (Some x) = refl

  listed : (f : X → Option Y) (g : X → List Y) → ((x : X) → option_to_list (f x) ≡ g x) → (xs : List X) → filter_map f xs ≡ flat_map g xs
  listed f g h [] = refl
  listed f g h (x ∷ xs) = by (f x) (h x) ∙ ap (λ (ys : List Y). g x ++ ys) (listed f g h xs)
    where
      by : (o : Option Y) → option_to_list o ≡ g x → cons_option o (filter_map f xs) ≡ g x ++ filter_map f xs
      by None is = ap (λ (ys : List Y). ys ++ filter_map f xs) is
      by (Some y) is = ap (λ (ys : List Y). ys ++ filter_map f xs) is

-- ---- an area's entries of a router as an area border router

abbrev Differ : EntryValue → EntryValue → Type 0
Differ a b = IsSameWay a b → ⊥

is_border : (k : EntryKind) → same_kind k Border ≡ true → k ≡ Border
is_border Border h = refl
is_border AsbrIntra h = absurd (true≢false (sym h))
is_border AsbrInter h = absurd (true≢false (sym h))

same_way : (x : RouterId) (e f : EntryValue) → e.area ≡ f.area → is_border_entry x e ≡ true → is_border_entry x f ≡ true → IsSameWay e f
same_way x e f area of_e of_f =
    let a = and_parts (same_kind e.kind Border) (same_router e.router x) of_e in
    let b = and_parts (same_kind f.kind Border) (same_router f.router x) of_f in
    let ids : e.router.0 ≡ f.router.0 = eqb-true e.router.0 x.0 a.1 ∙ sym (eqb-true f.router.0 x.0 b.1) in
    record {
      router = ap (λ (n : ℕ). record { 0 = n }) ids;
      area = area;
      kind = is_border e.kind a.0 ∙ sym (is_border f.kind b.0);
    }

border_once : (x : RouterId) (area : AreaId) (es : List EntryValue) → ((e : EntryValue) → In es e → e.area ≡ area) → Pairs Differ es
    → Pairs (λ e f. is_border_entry x e ≡ true → is_border_entry x f ≡ true → ⊥) es
border_once x area [] through once = tt
border_once x area (e ∷ es) through once = (
  λ f i of_e of_f. once.0 f i (same_way x e f (through e (inl refl) ∙ sym (through f (inr i))) of_e of_f),
  border_once x area es (λ f i. through f (inr i)) once.1,
)

-- ---- the ways of a summary-LSA

module _ (router : RouterId) (area : AreaResultValue) (intra : List RouteValue)
    (through : (e : EntryValue) → In area.entries e → e.area ≡ area.area) (once : Pairs Differ area.entries) where
  ways_of_lsa : (lsa : List ℕ) → option_to_list (network_candidate router area intra lsa) ≡ ways_by router area intra lsa
  ways_of_lsa lsa = by (announced_network intra lsa) (usable_metric router lsa)
    where
      over : (net : Net) (metric : ℕ)
          → option_to_list (option_map (by_border net area.area metric) (border_of area.entries (originator_of lsa))) ≡ ways_over router area intra lsa net metric
      over net metric =
          sym (map_option (by_border net area.area metric) (border_of area.entries (originator_of lsa)))
          ∙ ap (map (by_border net area.area metric)) (sym (found (is_border_entry (originator_of lsa)) area.entries
          (border_once (originator_of lsa) area.area area.entries through once)))

      by : (prefix : Option Net) (metric : Option ℕ)
          → option_to_list (option_and_then (λ net.
          option_and_then (λ m. option_map (by_border net area.area m) (border_of area.entries (originator_of lsa))) metric) prefix)
          ≡ option_map_or (λ net. option_map_or (ways_over router area intra lsa net) metric []) prefix []
      by None metric = refl
      by (Some net) None = refl
      by (Some net) (Some m) = over net m

  ways_of_lsas : (lsas : List (List ℕ)) → filter_map (network_candidate router area intra) lsas ≡ flat_map (ways_by router area intra) lsas
  ways_of_lsas lsas = listed (network_candidate router area intra) (ways_by router area intra) ways_of_lsa lsas

-- ---- an area's entries lead through it

by_bit : (area : AreaId) (r : ReachedValue) (b : Bool) (kind : EntryKind) (e : EntryValue) → In (cond b (reached_entry area r kind ∷ []) []) e → e.area ≡ area
by_bit area r true kind e (inl same) = sym (ap (λ (x : EntryValue). x.area) same)
by_bit area r true kind e (inr i) = absurd i
by_bit area r false kind e i = absurd i

of_vertex : (area : AreaId) (root : RouterId) (r : ReachedValue) (e : EntryValue) → In (entries_of area root r) e → e.area ≡ area
of_vertex area root r e = by (is_router_lsa r.lsa && not (is_lsa_of root r.lsa))
  where
    by : (b : Bool) → In (cond b (entry_by area r bit_b Border ++ entry_by area r bit_e AsbrIntra) []) e → e.area ≡ area
    by true i =
        ⊎_elim (λ j. by_bit area r (has_bit bit_b (flags_of r.lsa)) Border e j) (λ j. by_bit area r (has_bit bit_e (flags_of r.lsa)) AsbrIntra e j)
        (In-cases (entry_by area r bit_b Border) (entry_by area r bit_e AsbrIntra) e i)
    by false i = absurd i

of_area : (area : AreaId) (root : RouterId) (lsas : List (List ℕ)) (e : EntryValue) → In (area_result area lsas root).entries e → e.area ≡ area
unfolding area_result
of_area area root lsas e i =
    let r = flat_map-In (entries_of area root) (reached_from root (used lsas)) e i in
    of_vertex area root r.0 e r.2

area_of : (area : AreaId) (root : RouterId) (lsas : List (List ℕ)) → (area_result area lsas root).area ≡ area
unfolding area_result
area_of area root lsas = refl

of_result : (db : Lists) (router : RouterId) (areas : List AreaHead) (r : AreaResultValue) → In (results_in db router areas) r
    → (e : EntryValue) → In r.entries e → e.area ≡ r.area
of_result db router areas r i e j =
    let at = map-In (result_in db router) areas r i in
    let id : AreaId = record { 0 = at.0.id } in
    of_area id router (lsas_in db at.0) e (subst (λ (x : AreaResultValue). In x.entries e) (sym at.2) j)
    ∙ sym (area_of id router (lsas_in db at.0)) ∙ ap (λ (x : AreaResultValue). x.area) at.2

-- the area that is examined is one of them
examined-In : (results : List AreaResultValue) (r : AreaResultValue) → examined results ≡ Some r → In results r
examined-In [] r h = absurd (cc)
examined-In (s ∷ []) r h = inl (Some-same h)
examined-In (s ∷ t ∷ rest) r h = find-In (λ (x : AreaResultValue). is_backbone x.area) (s ∷ t ∷ rest) r h

-- ---- all together

module _ (are_best : (cs : List (Candidate Net)) → AreBestWays prefix_cmp cs (ways_of prefix_cmp cs))
    (once : (db : Lists) → IsDatabase db → (router : RouterId) (intra : List RouteValue)
    → StandOnce (inter_of db router (results_of db router) intra).routers) where
  module _ (db : Lists) (router : RouterId) (intra : List RouteValue) (is : IsDatabase db) where
    abbrev results : List AreaResultValue
    results = results_in db router (attached_areas db router)

    entries_once : Pairs Differ (entries_of_all results)
    unfolding inter_of
    entries_once =
        pairs_left Differ (entries_of_all results) (entries_by db router (examined results))
        (pairs_from Differ (entries_of_all results ++ entries_by db router (examined results)) (once db is router intra))

    of_examined : (o : Option AreaResultValue) → ((r : AreaResultValue) → o ≡ Some r → In results r)
        → AreBestRoutes (option_map_or (λ area. flat_map (ways_by router area intra) (lsas_of (Area area.area) db)) o []) (routes_by db router intra o)
    of_examined None from = record { ways = ways_of prefix_cmp []; best = are_best []; each = refl }
    of_examined (Some r) from =
        let i = from r refl in
        let ds : List (Candidate Net) = filter_map (network_candidate router r intra) (lsas_of (Area r.area) db) in
        let same = ways_of_lsas router r intra (of_result db router (attached_areas db router) r i)
        (pairs_within Differ (λ (x : AreaResultValue). x.entries) results r i entries_once) (lsas_of (Area r.area) db) in
        record {
          ways = ways_of prefix_cmp ds;
          best = subst (λ (cs : List (Candidate Net)). AreBestWays prefix_cmp cs (ways_of prefix_cmp ds)) same (are_best ds);
          each = refl;
        }

    pub inter_routes_are_best : AreBestRoutes (ways_between db router results intra) (inter_of db router results intra).routes
    unfolding inter_of
    inter_routes_are_best = of_examined (examined results) (λ r is_r. examined-In results r is_r)
