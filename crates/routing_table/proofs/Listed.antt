-- The routers of live router-LSAs are those that are attached to areas.
use Rattle.std.proofs.Common.{◌≡◌, ◌≢◌, ◌↔◌, ℕ, Bool, true, false, not, cond, eqb, List, [], ◌∷◌, Option, Some, None, refl, sym, ap, ◌∙◌, subst, inl}
use Rattle.std.proofs.Common.{inr, true≢false}
use Rattle.std.specs.Prelude.{◌&&◌, ◌||◌}
use Rattle.std.specs.Cmp.{Equal-is, unsigned_ties}
use Rattle.std.specs.List.{AllPairs, Contains, filter_map, find}
use Rattle.std.specs.Option.{option_map_or}
use Rattle.std.specs.Ordering.{eq_by_cmp}
use Rattle.std.proofs.lemmas.Bool.{and_from, and_parts, eq-eqb, eqb-true}
use Rattle.std.proofs.lemmas.List.Elements.{All-contains}
use Rattle.std.proofs.lemmas.Map.Views.{Contains-from_any}
use Rattle.lsa_codec.specs.declared.address.RouterId.{RouterId}
use Rattle.lsa_codec.specs.declared.key.Key.{Key}
use Rattle.lsa_codec.specs.Accepted.{IsAccepted}
use Rattle.lsa_codec.specs.Fields.{kind_of, link_state_id_of, advertising_router_of}
use Rattle.lsa_codec.specs.Key.{key_of, router_key}
use Rattle.lsdb.specs.Lists.{IsDatabase, Lists, areas_of, has_key}
use Rattle.lsdb.proofs.KeyLemmas.{other_key, same_key_true}
use Rattle.lsdb.proofs.ListLemmas.{pairs_head, pairs_tail}
use Rattle.area_graph.specs.Area.{is_live, is_router_lsa}
use Rattle.area_graph.specs.Graphs.{AreOfArea}
use Rattle.area_graph.specs.Rising.{rising}
use Rattle.area_graph.proofs.GraphLemmas.{are_of_area}
use Rattle.area_graph.proofs.MemberLemmas.{Contains-from_In, In, In-filter, In-filter_map, In-flat_map, In-from_Contains, In-list_any, Some-same}
use Rattle.area_graph.proofs.MemberLemmas.{filter-In, filter_map-In, flat_map-In}
use Rattle.lsa_codec.specs.Order.{router_cmp}
use Rattle.lsa_codec.proofs.OrderLemmas.{router_exact, router_total}
use Rattle.best_ways.proofs.RisingLemmas.{any_rising}
use Rattle.area_routes.specs.Attached.{attached_areas, has_live_router_lsa}
use Rattle.routing_table.specs.AreaLsas.{area_lsas, lsas_in}
use Rattle.routing_table.specs.Routers.{attached_routers, live_router}
use Rattle.routing_table.proofs.Counted.{joins}

-- what a search finds is there, and passes
found_In : {X : Type 0} (p : X → Bool) (xs : List X) (x : X) → find p xs ≡ Some x → In xs x × (p x ≡ true)
found_In p [] x h = cc
found_In p (y ∷ ys) x h = by (p y) refl h (found_In p ys x)
  where
    by : (b : Bool) → p y ≡ b → cond b (Some y) (find p ys) ≡ Some x → (find p ys ≡ Some x → In ys x × (p x ≡ true)) → In (y ∷ ys) x × (p x ≡ true)
    by true e k rest = let is : y ≡ x = cc in (inl is, ap p (sym is) ∙ e)
    by false e k rest = let r = rest k in (inr r.0, r.1)

-- ---- members of a rising list

abbrev same : RouterId → RouterId → Bool
same = eq_by_cmp router_cmp

same_exact : (a b : RouterId) → same a b ≡ true → a ≡ b
same_exact a b h = router_exact a b ((Equal-is (router_cmp a b)).0 h)

same_self : (a : RouterId) → same a a ≡ true
same_self a = sym (unsigned_ties a.0 a.0) ∙ eq-eqb a.0 a.0 refl

In-rising : (rs : List RouterId) (router : RouterId) → In rs router → Contains (rising router_cmp rs) router
In-rising rs router there =
    Contains-from_any same_exact router (rising router_cmp rs)
    (any_rising router_total router rs ∙ In-list_any (same router) rs router there (same_self router))

rising-In : (rs : List RouterId) (router : RouterId) → Contains (rising router_cmp rs) router → In rs router
rising-In rs router there =
    In-from_Contains rs router
    (Contains-from_any same_exact router rs
    (sym (any_rising router_total router rs) ∙ In-list_any (same router) (rising router_cmp rs) router
    (In-from_Contains (rising router_cmp rs) router there) (same_self router)))

-- ---- the router-LSA of a router

-- the only LSA of a key is found
find_only : (key : Key) (lsas : List (List ℕ)) (lsa : List ℕ) → AllPairs (λ a b. key_of a ≢ key_of b) lsas
    → In lsas lsa → has_key key lsa ≡ true → find (has_key key) lsas ≡ Some lsa
find_only key [] lsa distinct there h = absurd there
find_only key (x ∷ xs) lsa distinct (inl p) h =
    ap (λ b. cond b (Some x) (find (has_key key) xs)) (ap (has_key key) p ∙ h) ∙ ap (λ (l : List ℕ). Some l) p
find_only key (x ∷ xs) lsa distinct (inr i) h =
    let apart : key_of x ≢ key_of lsa =
    All-contains (λ y. key_of x ≢ key_of y) xs lsa (pairs_head (λ a b. key_of a ≢ key_of b) x xs distinct) (Contains-from_In xs lsa i) in
    ap (λ b. cond b (Some x) (find (has_key key) xs)) (other_key key x (λ e. apart (e ∙ sym (same_key_true (key_of lsa) key h))))
    ∙ find_only key xs lsa (pairs_tail (λ a b. key_of a ≢ key_of b) x xs distinct) i h

origin_of : (lsa : List ℕ) → IsAccepted lsa → kind_of lsa ≡ 1 → link_state_id_of lsa ≡ advertising_router_of lsa
origin_of lsa sound kind =
    eqb-true _ _ (subst (λ b. (not b || eqb (link_state_id_of lsa) (advertising_router_of lsa)) ≡ true) (eq-eqb (kind_of lsa) 1 kind) sound.origin)

-- what a live router-LSA of a router is
record IsLiveOf (router : RouterId) (lsa : List ℕ) : Type 0 where
  live : is_live lsa ≡ true
  kind : is_router_lsa lsa ≡ true
  id : link_state_id_of lsa ≡ router.0

live_of : (router : RouterId) (lsa : List ℕ) → live_router lsa ≡ Some router → IsLiveOf router lsa
live_of router lsa h = by (is_live lsa && is_router_lsa lsa) refl h
  where
    by : (b : Bool) → (is_live lsa && is_router_lsa lsa) ≡ b
        → cond b (let r : RouterId = record { 0 = link_state_id_of lsa } in Some r) None ≡ Some router → IsLiveOf router lsa
    by false is e = absurd cc
    by true is e =
        let parts = and_parts (is_live lsa) (is_router_lsa lsa) is in
        record { live = parts.0; kind = parts.1; id = ap (λ (r : RouterId). r.0) (Some-same e) }

of_live : (router : RouterId) (lsa : List ℕ) → is_live lsa ≡ true → has_key (router_key router) lsa ≡ true → live_router lsa ≡ Some router
of_live router lsa live h =
    let parts = and_parts (eqb (kind_of lsa) 1) (eqb (link_state_id_of lsa) router.0 && eqb (advertising_router_of lsa) router.0) h in
    let id = and_parts (eqb (link_state_id_of lsa) router.0) (eqb (advertising_router_of lsa) router.0) parts.1 in
    let reported : ℕ → Option RouterId = λ n. Some (record { 0 = n }) in
    ap (λ b. cond b (reported (link_state_id_of lsa)) None) (and_from (is_live lsa) (is_router_lsa lsa) live parts.0)
    ∙ ap reported (eqb-true (link_state_id_of lsa) router.0 id.0)

key_of_live : (router : RouterId) (lsa : List ℕ) → IsAccepted lsa → IsLiveOf router lsa → has_key (router_key router) lsa ≡ true
key_of_live router lsa sound h =
    let origin = origin_of lsa sound (eqb-true (kind_of lsa) 1 h.kind) in
    and_from (eqb (kind_of lsa) 1) (eqb (link_state_id_of lsa) router.0 && eqb (advertising_router_of lsa) router.0) h.kind
    (and_from (eqb (link_state_id_of lsa) router.0) (eqb (advertising_router_of lsa) router.0) (eq-eqb _ _ h.id) (eq-eqb _ _ (sym origin ∙ h.id)))

-- ---- one area

there_joined : (router : RouterId) (lsas : List (List ℕ)) (lsa : List ℕ) → AreOfArea lsas → In lsas lsa
    → live_router lsa ≡ Some router → has_live_router_lsa router lsas ≡ true
there_joined router lsas lsa are there h =
    let of = live_of router lsa h in
    let sound : IsAccepted lsa = All-contains IsAccepted lsas lsa are.accepted (Contains-from_In lsas lsa there) in
    ap (λ (o : Option (List ℕ)). option_map_or is_live o false)
    (find_only (router_key router) lsas lsa are.distinct there (key_of_live router lsa sound of)) ∙ of.live

joined_there : (router : RouterId) (lsas : List (List ℕ)) → has_live_router_lsa router lsas ≡ true
    → (lsa : List ℕ) × In lsas lsa × (live_router lsa ≡ Some router)
joined_there router lsas h = by (find (has_key (router_key router)) lsas) refl h
  where
    by : (o : Option (List ℕ)) → find (has_key (router_key router)) lsas ≡ o → option_map_or is_live o false ≡ true
        → (lsa : List ℕ) × In lsas lsa × (live_router lsa ≡ Some router)
    by None is k = absurd (true≢false (sym k))
    by (Some lsa) is k = (let found = found_In (has_key (router_key router)) lsas lsa is in (lsa, found.0, of_live router lsa k found.1))

-- ---- all areas

some_member : {X : Type 0} (xs : List X) → xs ≢ [] → (x : X) × In xs x
some_member [] some = absurd (some refl)
some_member (x ∷ xs) some = (x, inl refl)

no_member : {X : Type 0} (xs : List X) (x : X) → In xs x → xs ≢ []
no_member xs x there none = subst (λ l. In l x) none there

module _ (db : Lists) (router : RouterId) where
  listed_attached : IsDatabase db → Contains (attached_routers db) router → attached_areas db router ≢ []
  listed_attached sound listed =
      let found = filter_map-In live_router (area_lsas db) router (rising-In (filter_map live_router (area_lsas db)) router listed) in
      let area = flat_map-In (lsas_in db) (areas_of db) found.0 found.1 in
      let joined = there_joined router (lsas_in db area.0) found.0 (are_of_area (record { 0 = area.0.id }) db sound) area.2 found.2 in
      no_member (attached_areas db router) area.0 (In-filter (joins db router) (areas_of db) area.0 area.1 joined)

  attached_listed : attached_areas db router ≢ [] → Contains (attached_routers db) router
  attached_listed some =
      let area = some_member (attached_areas db router) some in
      let kept = filter-In (joins db router) (areas_of db) area.0 area.1 in
      let lsa = joined_there router (lsas_in db area.0) kept.1 in
      In-rising (filter_map live_router (area_lsas db)) router
      (In-filter_map live_router (area_lsas db) lsa.0 router (In-flat_map (lsas_in db) (areas_of db) area.0 lsa.0 kept.0 lsa.1) lsa.2)

pub routers_attached : (db : Lists) (router : RouterId) → IsDatabase db → Contains (attached_routers db) router ↔ (attached_areas db router ≢ [])
routers_attached db router sound = (listed_attached db router sound, attached_listed db router)
