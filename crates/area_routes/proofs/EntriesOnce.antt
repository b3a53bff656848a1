-- In the entries of a router there is at most one for each router, area and kind.
use Rattle.std.proofs.Common.{◌≡◌, ◌≢◌, ℕ, ◌<◌, Bool, true, false, cond, not, List, [], ◌∷◌, ◌++◌, map, Option, None, Some, refl, sym, ap, subst}
use Rattle.std.proofs.Common.{◌∙◌, arith, ⊎_elim, inl, inr, true≢false}
use Rattle.std.specs.Prelude.{◌&&◌}
use Rattle.std.specs.Option.{option_map}
use Rattle.std.specs.List.{AllByRecursion, filter_map, flat_map}
use Rattle.std.specs.List.Sorted.{IsStrictlySortedBy}
use Rattle.std.specs.Map.{keys_of}
use Rattle.std.specs.Ordering.{is_lt}
use Rattle.std.specs.declared.cmp.Ordering.TheVariants.{Less}
use Rattle.std.proofs.lemmas.Cmp.{tied_itself}
use Rattle.lsa_codec.specs.declared.address.AreaId.{AreaId}
use Rattle.lsa_codec.specs.declared.address.RouterId.{RouterId}
use Rattle.lsa_codec.specs.Fields.{link_state_id_of}
use Rattle.lsdb.specs.declared.section.Section.TheVariants.{Area}
use Rattle.lsdb.specs.Lists.{AreaHead, IsBefore, IsDatabase, Lists, SectionLsas, areas_of, lsas_of}
use Rattle.area_graph.specs.declared.vertex.Vertex.{Vertex}
use Rattle.area_graph.specs.declared.vertex.Vertex.TheVariants.{Network, Router}
use Rattle.area_graph.specs.Area.{is_router_lsa, used, vertex_of}
use Rattle.area_graph.specs.AllPaths.{distance_of}
use Rattle.area_graph.specs.AreaEdges.{area_edges}
use Rattle.area_graph.specs.Graphs.{AreOfArea}
use Rattle.area_graph.proofs.GraphLemmas.{are_of_area}
use Rattle.area_graph.proofs.MemberLemmas.{In, In-cases, flat_map-In, map-In}
use Rattle.area_graph.proofs.UsedLemmas.{vertices_distinct}
use Rattle.next_hops.specs.declared.hop.Hop.{Hop}
use Rattle.next_hops.specs.FirstHops.{hops_of}
use Rattle.area_routes.specs.declared.entry.EntryKind.{EntryKind}
use Rattle.area_routes.specs.declared.entry.EntryKind.TheVariants.{Border, AsbrIntra, AsbrInter}
use Rattle.area_routes.specs.AreaResults.{area_result, result_in, results_of}
use Rattle.area_routes.specs.Attached.{attached_areas, id_of, is_attached}
use Rattle.best_ways.specs.Best.{ways_of}
use Rattle.area_routes.specs.Entries.{bit_b, bit_e, entries_of, entry_by, reached_entry, flags_of, has_bit}
use Rattle.area_routes.specs.EntriesOnce.{IsSameWay, StandOnce}
use Rattle.area_routes.specs.Inter.{asbr_candidate, asbr_entry, entries_by, entries_of_all, examined, inter_of}
use Rattle.lsa_codec.specs.Order.{router_cmp}
use Rattle.area_routes.specs.Reached.{ReachedValue, reached_by, reached_from}
use Rattle.area_routes.specs.Stubs.{is_lsa_of}
use Rattle.area_routes.specs.Values.{AreaResultValue, EntryValue}
use Rattle.best_ways.specs.Values.{RouteValue, WayValue}
use Rattle.best_ways.proofs.WayLemmas.{sorted_ways}
use Rattle.lsa_codec.proofs.OrderLemmas.{router_exact, router_total}
use Rattle.area_routes.proofs.Pairs.{AllPairs-from, Pairs, Pairs-append, Pairs-filter, Pairs-filter_map, Pairs-flat_map, Pairs-from, Pairs-map, Pairs-unmap}

abbrev Differ : EntryValue → EntryValue → Type 0
Differ a b = IsSameWay a b → ⊥

-- ---- the entries of an area

-- the properties of an entry of a vertex
record IsEntryOf (area : AreaId) (r : ReachedValue) (e : EntryValue) : Type 0 where
  of_router : is_router_lsa r.lsa ≡ true
  id : e.router.0 ≡ link_state_id_of r.lsa
  through : e.area ≡ area
  kind : e.kind ≢ AsbrInter

abbrev not_inter : EntryKind → Bool
not_inter Border = true
not_inter AsbrIntra = true
not_inter AsbrInter = false

is_intra_kind : (k : EntryKind) → not_inter k ≡ true → k ≢ AsbrInter
is_intra_kind k h e = true≢false (sym h ∙ ap not_inter e)

by_bit : (area : AreaId) (r : ReachedValue) (b : Bool) (kind : EntryKind) (e : EntryValue)
    → In (cond b (reached_entry area r kind ∷ []) []) e → e ≡ reached_entry area r kind
by_bit area r true kind e (inl same) = sym same
by_bit area r true kind e (inr i) = absurd i
by_bit area r false kind e i = absurd i

of_vertex : (area : AreaId) (root : RouterId) (r : ReachedValue) (e : EntryValue) → In (entries_of area root r) e → IsEntryOf area r e
of_vertex area root r e = by (is_router_lsa r.lsa) (not (is_lsa_of root r.lsa)) refl
  where
    made : (kind : EntryKind) → not_inter kind ≡ true → is_router_lsa r.lsa ≡ true → e ≡ reached_entry area r kind → IsEntryOf area r e
    made kind intra router is = record {
      of_router = router;
      id = ap (λ (x : EntryValue). x.router.0) is;
      through = ap (λ (x : EntryValue). x.area) is;
      kind = λ k. is_intra_kind kind intra (sym (ap (λ (x : EntryValue). x.kind) is) ∙ k);
    }

    by : (b c : Bool) → is_router_lsa r.lsa ≡ b → In (cond (b && c) (entry_by area r bit_b Border ++ entry_by area r bit_e AsbrIntra) []) e → IsEntryOf area r e
    by true true router i =
        ⊎_elim (λ j. made Border refl router (by_bit area r (has_bit bit_b (flags_of r.lsa)) Border e j))
        (λ j. made AsbrIntra refl router (by_bit area r (has_bit bit_e (flags_of r.lsa)) AsbrIntra e j))
        (In-cases (entry_by area r bit_b Border) (entry_by area r bit_e AsbrIntra) e i)
    by true false router i = absurd i
    by false c router i = absurd i

abbrev is_border : EntryKind → Bool
is_border Border = true
is_border AsbrIntra = false
is_border AsbrInter = false

two_kinds : (area : AreaId) (r : ReachedValue) → Differ (reached_entry area r Border) (reached_entry area r AsbrIntra)
two_kinds area r same = true≢false (ap is_border same.kind)

vertex_once : (area : AreaId) (root : RouterId) (r : ReachedValue) → Pairs Differ (entries_of area root r)
vertex_once area root r = by (is_router_lsa r.lsa && not (is_lsa_of root r.lsa)) (has_bit bit_b (flags_of r.lsa)) (has_bit bit_e (flags_of r.lsa))
  where
    by : (b c d : Bool) → Pairs Differ (cond b (cond c (reached_entry area r Border ∷ []) [] ++ cond d (reached_entry area r AsbrIntra ∷ []) []) [])
    by true true true = (differs, (λ y i. absurd i, tt))
      where
        differs : (y : EntryValue) → In (reached_entry area r AsbrIntra ∷ []) y → Differ (reached_entry area r Border) y
        differs y (inl e) = subst (λ (x : EntryValue). Differ (reached_entry area r Border) x) e (two_kinds area r)
        differs y (inr i) = absurd i
    by true true false = (λ y i. absurd i, tt)
    by true false true = (λ y i. absurd i, tt)
    by true false false = tt
    by false c d = tt

-- vertices of two LSAs
abbrev OtherVertex : ReachedValue → ReachedValue → Type 0
OtherVertex r s = vertex_of r.lsa ≢ vertex_of s.lsa

router_vertex : (lsa : List ℕ) → is_router_lsa lsa ≡ true → vertex_of lsa ≡ Router (record { 0 = link_state_id_of lsa })
router_vertex lsa h = ap (λ (b : Bool). cond b (Router (record { 0 = link_state_id_of lsa })) (Network (record { 0 = link_state_id_of lsa }))) h

vertices_apart : (area : AreaId) (root : RouterId) (r s : ReachedValue) (e f : EntryValue) → OtherVertex r s
    → In (entries_of area root r) e → In (entries_of area root s) f → Differ e f
vertices_apart area root r s e f apart i j same =
    let of_r = of_vertex area root r e i in
    let of_s = of_vertex area root s f j in
    let ids : link_state_id_of r.lsa ≡ link_state_id_of s.lsa = sym of_r.id ∙ ap (λ (x : RouterId). x.0) same.router ∙ of_s.id in
    apart (router_vertex r.lsa of_r.of_router ∙ ap (λ (n : ℕ). Router (record { 0 = n })) ids ∙ sym (router_vertex s.lsa of_s.of_router))

reached_lsa : (distance : Vertex → Option ℕ) (hops : Vertex → List Hop) (lsa : List ℕ) (r : ReachedValue) → reached_by distance hops lsa ≡ Some r → r.lsa ≡ lsa
reached_lsa distance hops lsa r = by (distance (vertex_of lsa))
  where
    by : (o : Option ℕ) → option_map (λ d. record { lsa = lsa; distance = d; hops = hops (vertex_of lsa) }) o ≡ Some r → r.lsa ≡ lsa
    by None h = cc
    by (Some d) h = let is : record { lsa = lsa; distance = d; hops = hops (vertex_of lsa) } ≡ r = cc in sym (ap (λ (x : ReachedValue). x.lsa) is)

reached_apart : (distance : Vertex → Option ℕ) (hops : Vertex → List Hop) (lsas : List (List ℕ)) → Pairs (λ a b. vertex_of a ≢ vertex_of b) lsas
    → Pairs OtherVertex (filter_map (reached_by distance hops) lsas)
reached_apart distance hops lsas apart =
    Pairs-filter_map (λ a b. vertex_of a ≢ vertex_of b) OtherVertex (reached_by distance hops) lsas
    (λ a b r s other is_r is_s same. other (sym (ap vertex_of (reached_lsa distance hops a r is_r)) ∙ same ∙ ap vertex_of (reached_lsa distance hops b s is_s)))
    apart

area_once : (area : AreaId) (root : RouterId) (lsas : List (List ℕ)) → AreOfArea lsas → Pairs Differ (area_result area lsas root).entries
unfolding area_result
area_once area root lsas are =
    let apart = Pairs-unmap (λ v w. v ≢ w) vertex_of (used lsas)
    (Pairs-from (λ v w. v ≢ w) (map vertex_of (used lsas)) (vertices_distinct lsas are.accepted are.distinct)) in
    let edges = area_edges (used lsas) in
    let reached = reached_apart (distance_of edges (Router root)) (hops_of edges (Router root)) (used lsas) apart in
    Pairs-flat_map OtherVertex Differ (entries_of area root) (reached_from root (used lsas)) (λ r i. vertex_once area root r) (vertices_apart area root) reached

-- an entry of an area is one through it, and not one by a summary-LSA
of_area : (area : AreaId) (root : RouterId) (lsas : List (List ℕ)) (e : EntryValue)
    → In (area_result area lsas root).entries e → (e.area ≡ area) × (e.kind ≢ AsbrInter)
unfolding area_result
of_area area root lsas e i =
    let r = flat_map-In (entries_of area root) (reached_from root (used lsas)) e i in
    let is = of_vertex area root r.0 e r.2 in
    (is.through, is.kind)

-- ---- those of all areas

flat_map_map : {X Y Z : Type 0} (f : Y → List Z) (g : X → Y) (xs : List X) → flat_map f (map g xs) ≡ flat_map (λ x. f (g x)) xs
flat_map_map f g [] = refl
flat_map_map f g (x ∷ xs) = ap (λ l. f (g x) ++ l) (flat_map_map f g xs)

module _ (db : Lists) (router : RouterId) where
  abbrev entries_in : AreaHead → List EntryValue
  entries_in area = (result_in db router area).entries

  all_entries : entries_of_all (results_of db router) ≡ flat_map entries_in (attached_areas db router)
  all_entries = flat_map_map (λ (r : AreaResultValue). r.entries) (result_in db router) (attached_areas db router)

  areas_rise : IsDatabase db → Pairs (λ (a b : AreaHead). a.id < b.id) (areas_of db)
  areas_rise is =
      Pairs-filter_map (λ (s t : SectionLsas). IsBefore s.area t.area) (λ (a b : AreaHead). a.id < b.id) (λ (s : SectionLsas). s.area) db
      (λ s t a b before is_a is_b. in_order s.area t.area a b before is_a is_b)
      (Pairs-unmap IsBefore (λ (s : SectionLsas). s.area) db (Pairs-from IsBefore (map (λ (s : SectionLsas). s.area) db) is.heads.order))
    where
      in_order : (o p : Option AreaHead) (a b : AreaHead) → IsBefore o p → o ≡ Some a → p ≡ Some b → a.id < b.id
      in_order o p a b before is_a is_b =
          subst (λ (x : Option AreaHead). IsBefore (Some a) x) is_b (subst (λ (x : Option AreaHead). IsBefore x p) is_a before)

  areas_apart : (a b : AreaHead) (e f : EntryValue) → a.id < b.id → In (entries_in a) e → In (entries_in b) f → Differ e f
  areas_apart a b e f below i j same =
      let of_a = of_area (id_of a) router (lsas_of (Area (id_of a)) db) e i in
      let of_b = of_area (id_of b) router (lsas_of (Area (id_of b)) db) f j in
      let ids : a.id ≡ b.id = ap (λ (x : AreaId). x.0) (sym of_a.0 ∙ same.area ∙ of_b.0) in
      omega (arith, below, ids)

  areas_once : IsDatabase db → Pairs Differ (entries_of_all (results_of db router))
  areas_once is =
      subst (λ (es : List EntryValue). Pairs Differ es) (sym all_entries)
      (Pairs-flat_map (λ (a b : AreaHead). a.id < b.id) Differ entries_in (attached_areas db router)
      (λ a i. area_once (id_of a) router (lsas_of (Area (id_of a)) db) (are_of_area (id_of a) db is)) areas_apart
      (Pairs-filter (λ (a b : AreaHead). a.id < b.id) (λ (area : AreaHead). is_attached db (id_of area) router) (areas_of db) (areas_rise is)))

  not_by_summary : (e : EntryValue) → In (entries_of_all (results_of db router)) e → e.kind ≢ AsbrInter
  not_by_summary e i =
      let at = flat_map-In entries_in (attached_areas db router) e (subst (λ (es : List EntryValue). In es e) all_entries i) in
      (of_area (id_of at.0) router (lsas_of (Area (id_of at.0)) db) e at.2).1

-- ---- those by summary-LSAs

all_In : {X : Type 0} (P : X → Type 0) (xs : List X) → AllByRecursion P xs → (x : X) → In xs x → P x
all_In P [] a x i = absurd i
all_In P (y ∷ ys) a x (inl e) = subst P e a.0
all_In P (y ∷ ys) a x (inr i) = all_In P ys a.1 x i

sorted_pairs : (ks : List RouterId) → IsStrictlySortedBy router_cmp ks → Pairs (λ a b. router_cmp a b ≡ Less) ks
unfolding IsStrictlySortedBy
sorted_pairs [] up = tt
sorted_pairs (k ∷ ks) up = (all_In (λ b. router_cmp k b ≡ Less) ks up.0, sorted_pairs ks up.1)

below_apart : (a b : RouterId) → router_cmp a b ≡ Less → a ≡ b → ⊥
below_apart a b below same =
    let tied = sym (tied_itself router_total b) ∙ ap (λ (r : RouterId). router_cmp r b) (sym same) ∙ below in
    true≢false (ap is_lt (sym tied))

module _ (lists : Lists) (router : RouterId) where
  summaries_once : (o : Option AreaResultValue) → Pairs Differ (entries_by lists router o)
  summaries_once None = tt
  summaries_once (Some area) =
      let ways = ways_of router_cmp (filter_map (asbr_candidate router area) (lsas_of (Area area.area) lists)) in
      Pairs-map (λ (a b : RouterId × WayValue). router_cmp a.0 b.0 ≡ Less) Differ (asbr_entry area.area) ways
      (λ a b below same. below_apart a.0 b.0 below same.router)
      (Pairs-unmap (λ a b. router_cmp a b ≡ Less) (λ (e : RouterId × WayValue). e.0) ways
      (sorted_pairs (keys_of ways) (sorted_ways router_total router_exact (filter_map (asbr_candidate router area) (lsas_of (Area area.area) lists)))))

  by_summary : (o : Option AreaResultValue) (e : EntryValue) → In (entries_by lists router o) e → e.kind ≡ AsbrInter
  by_summary None e i = absurd i
  by_summary (Some area) e i =
      let at = map-In (asbr_entry area.area) _ e i in
      sym (ap (λ (x : EntryValue). x.kind) at.2)

pub entries_once : (db : Lists) → IsDatabase db → (router : RouterId) (intra : List RouteValue)
    → StandOnce (inter_of db router (results_of db router) intra).routers
unfolding inter_of
entries_once db is router intra =
    let results = results_of db router in
    AllPairs-from Differ (entries_of_all results ++ entries_by db router (examined results))
    (Pairs-append Differ (entries_of_all results) (entries_by db router (examined results))
    (areas_once db router is) (summaries_once db router (examined results))
    (λ e f i j same. not_by_summary db router e i (same.kind ∙ by_summary db router (examined results) f j)))
