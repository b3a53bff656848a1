-- A router is attached to an area exactly where it is a vertex of the area's graph.
use Rattle.std.proofs.Common.{◌≡◌, ◌≢◌, ℕ, Bool, true, false, not, cond, eqb, List, [], ◌∷◌, get_or, Option, None, Some, refl, sym, ap, subst, ◌∙◌}
use Rattle.std.proofs.Common.{arith, inl, inr, ⊎_elim}
use Rattle.std.specs.Prelude.{◌↔◌, ◌&&◌, ◌||◌}
use Rattle.std.specs.List.{AllPairs, Contains, find, list_any}
use Rattle.std.specs.Option.{option_map_or}
use Rattle.std.proofs.lemmas.Bool.{and_from, and_parts, cases_lt, eq-eqb, eqb-true, false≢true}
use Rattle.std.proofs.lemmas.List.{get_or_default}
use Rattle.std.proofs.lemmas.List.Elements.{All-contains}
use Rattle.std.proofs.lemmas.List.Folds.{list_any_none}
use Rattle.lsa_codec.specs.declared.address.AreaId.{AreaId}
use Rattle.lsa_codec.specs.declared.address.RouterId.{RouterId}
use Rattle.lsa_codec.specs.declared.key.Key.{Key}
use Rattle.lsa_codec.specs.Accepted.{IsAccepted}
use Rattle.lsa_codec.specs.Fields.{advertising_router_of, kind_of, link_state_id_of}
use Rattle.lsa_codec.specs.Key.{key_of, router_key}
use Rattle.lsdb.specs.declared.section.Section.TheVariants.{Area}
use Rattle.lsdb.specs.Lists.{IsDatabase, Lists, has_key, lsas_of}
use Rattle.area_graph.specs.Area.{is_live, is_network_lsa, is_outranked_by, is_router_lsa, is_vertex_lsa, outranks, used, vertex_lsas, vertex_of, vertices_of}
use Rattle.area_graph.specs.Graphs.{AreOfArea}
use Rattle.area_graph.specs.declared.vertex.Vertex.{Vertex}
use Rattle.area_graph.specs.declared.vertex.Vertex.TheVariants.{Router}
use Rattle.area_graph.proofs.AreaLemmas.{router_lsa_of, vertex_of_router}
use Rattle.area_graph.proofs.GraphLemmas.{are_of_area}
use Rattle.area_graph.proofs.MemberLemmas.{Contains-from_In, In, In-filter, In-from_Contains, In-map, map-In}
use Rattle.area_graph.proofs.UsedLemmas.{used_In}
use Rattle.area_routes.specs.Attached.{has_live_router_lsa, is_attached}

-- what is found is there, and passes
find-In : {X : Type 0} (p : X → Bool) (xs : List X) (x : X) → find p xs ≡ Some x → In xs x × (p x ≡ true)
find-In p [] x h = cc
find-In {X} p (y ∷ ys) x h = by (p y) refl h (find-In p ys x)
  where
    by : (b : Bool) → p y ≡ b → cond b (Some y) (find p ys) ≡ Some x → (find p ys ≡ Some x → In ys x × (p x ≡ true)) → In (y ∷ ys) x × (p x ≡ true)
    by true is k rest = let same : y ≡ x = cc in (inl same, subst (λ (z : X). p z ≡ true) same is)
    by false is k rest = let r = rest k in (inr r.0, r.1)

-- where one passes, one is found
In-find : {X : Type 0} (p : X → Bool) (xs : List X) (x : X) → In xs x → p x ≡ true → (y : X) × (find p xs ≡ Some y)
In-find p [] x i t = absurd i
In-find {X} p (y ∷ ys) x i t = by (p y) refl i (In-find p ys x)
  where
    by : (b : Bool) → p y ≡ b → In (y ∷ ys) x → (In ys x → p x ≡ true → (z : X) × (find p ys ≡ Some z)) → (z : X) × (cond b (Some y) (find p ys) ≡ Some z)
    by true is k rest = (y, refl)
    by false is (inl q) rest = absurd (false≢true (sym is ∙ ap p q ∙ t))
    by false is (inr j) rest = rest j t

-- members with one key are one, where all keys differ
one_of_key : (lsas : List (List ℕ)) → AllPairs (λ a b. key_of a ≢ key_of b) lsas → (a b : List ℕ)
    → Contains lsas a → Contains lsas b → key_of a ≡ key_of b → a ≡ b
one_of_key lsas apart a b (i, low_i, at_i) (j, low_j, at_j) same =
    let at_j : get_or lsas j a ≡ b = get_or_default lsas j a b low_j ∙ at_j in
    let keys : key_of (get_or lsas i a) ≡ key_of (get_or lsas j a) = ap (λ (x : List ℕ). key_of x) at_i ∙ same ∙ sym (ap (λ (x : List ℕ). key_of x) at_j) in
    ⊎_elim
    (λ lt. absurd (apart i j a lt low_j keys))
    (λ ge. ⊎_elim (λ lt. absurd (apart j i a lt low_i (sym keys)))
    (λ le. (let one : i ≡ j = omega arith in sym at_i ∙ ap (λ (k : ℕ). get_or lsas k a) one ∙ at_j)) (cases_lt j i))
    (cases_lt i j)

module _ (lsas : List (List ℕ)) (router : RouterId) where
  -- the key of a router-LSA has the Router ID twice
  key_is : (lsa : List ℕ) → has_key (router_key router) lsa ≡ true → key_of lsa ≡ router_key router
  key_is lsa h =
      let p = and_parts (eqb (kind_of lsa) 1) (eqb (link_state_id_of lsa) router.0 && eqb (advertising_router_of lsa) router.0) h in
      let q = and_parts (eqb (link_state_id_of lsa) router.0) (eqb (advertising_router_of lsa) router.0) p.1 in
      let kind : kind_of lsa ≡ 1 = eqb-true (kind_of lsa) 1 p.0 in
      let id : link_state_id_of lsa ≡ router.0 = eqb-true (link_state_id_of lsa) router.0 q.0 in
      let adv : advertising_router_of lsa ≡ router.0 = eqb-true (advertising_router_of lsa) router.0 q.1 in
      λ i. record { kind = kind i; id = record { 0 = id i }; adv = record { 0 = adv i } }

  -- a live router-LSA is in use
  used_router : (lsa : List ℕ) → In lsas lsa → kind_of lsa ≡ 1 → is_live lsa ≡ true → In (used lsas) lsa
  unfolding used
  used_router lsa there one live =
      In-filter (λ x. not (list_any (is_outranked_by x) (vertex_lsas lsas))) (vertex_lsas lsas) lsa
      (In-filter is_vertex_lsa lsas lsa there
      (and_from (is_live lsa) (is_router_lsa lsa || is_network_lsa lsa) live (ap (λ b. b || is_network_lsa lsa) (eq-eqb (kind_of lsa) 1 one))))
      (ap not (list_any_none (is_outranked_by lsa) (vertex_lsas lsas)
      (λ k d lt. ap (λ b. b && outranks (link_state_id_of lsa) (advertising_router_of lsa) (get_or (vertex_lsas lsas) k d)) (ap (λ n. eqb n 2) one))))

  attached_is : has_live_router_lsa router lsas ≡ true → Contains (vertices_of lsas) (Router router)
  attached_is h = by (find (has_key (router_key router)) lsas) refl h
    where
      by : (o : Option (List ℕ)) → find (has_key (router_key router)) lsas ≡ o
          → option_map_or is_live o false ≡ true → Contains (vertices_of lsas) (Router router)
      by None is h = absurd (false≢true h)
      by (Some lsa) is live =
          let found = find-In (has_key (router_key router)) lsas lsa is in
          let key = key_is lsa found.1 in
          let one : kind_of lsa ≡ 1 = ap (λ (k : Key). k.kind) key in
          Contains-from_In (vertices_of lsas) (Router router)
          (subst (λ (v : Vertex). In (vertices_of lsas) v) (vertex_of_router lsa router (one, ap (λ (k : Key). k.id.0) key))
          (In-map vertex_of (used lsas) lsa (used_router lsa found.0 one live)))

  module _ (area : AreOfArea lsas) where
    -- an LSA of the area that is a router-LSA of the router has its key
    has_its_key : (lsa : List ℕ) → In lsas lsa → kind_of lsa ≡ 1 → link_state_id_of lsa ≡ router.0 → has_key (router_key router) lsa ≡ true
    has_its_key lsa there one id =
        let origin : eqb (link_state_id_of lsa) (advertising_router_of lsa) ≡ true =
        subst (λ b. (not b || eqb (link_state_id_of lsa) (advertising_router_of lsa)) ≡ true) (eq-eqb (kind_of lsa) 1 one)
        (All-contains IsAccepted lsas lsa area.accepted (Contains-from_In lsas lsa there)).origin in
        let adv : advertising_router_of lsa ≡ router.0 = sym (eqb-true (link_state_id_of lsa) (advertising_router_of lsa) origin) ∙ id in
        and_from (eqb (kind_of lsa) 1) (eqb (link_state_id_of lsa) router.0 && eqb (advertising_router_of lsa) router.0) (eq-eqb (kind_of lsa) 1 one)
        (and_from (eqb (link_state_id_of lsa) router.0) (eqb (advertising_router_of lsa) router.0)
        (eq-eqb (link_state_id_of lsa) router.0 id) (eq-eqb (advertising_router_of lsa) router.0 adv))

    -- the LSA that is found by the key is the only one that has it
    is_only_one : (lsa found : List ℕ) → In lsas lsa → has_key (router_key router) lsa ≡ true
        → find (has_key (router_key router)) lsas ≡ Some found → lsa ≡ found
    is_only_one lsa found there key is =
        let first = find-In (has_key (router_key router)) lsas found is in
        one_of_key lsas area.distinct lsa found (Contains-from_In lsas lsa there) (Contains-from_In lsas found first.0)
        (key_is lsa key ∙ sym (key_is found first.1))

    found_live : (lsa : List ℕ) → In lsas lsa → has_key (router_key router) lsa ≡ true → is_live lsa ≡ true → has_live_router_lsa router lsas ≡ true
    found_live lsa there key live = by (In-find (has_key (router_key router)) lsas lsa there key)
      where
        by : ((found : List ℕ) × (find (has_key (router_key router)) lsas ≡ Some found)) → has_live_router_lsa router lsas ≡ true
        by (found, is) =
            ap (λ o. option_map_or is_live o false) is ∙ subst (λ (x : List ℕ). is_live x ≡ true) (is_only_one lsa found there key is) live

    vertex_is : Contains (vertices_of lsas) (Router router) → has_live_router_lsa router lsas ≡ true
    vertex_is h = by (map-In vertex_of (used lsas) (Router router) (In-from_Contains (vertices_of lsas) (Router router) h))
      where
        by : ((lsa : List ℕ) × In (used lsas) lsa × (vertex_of lsa ≡ Router router)) → has_live_router_lsa router lsas ≡ true
        by (lsa, used, is) =
            let there = used_In lsas lsa used in
            let own = router_lsa_of lsa router is in
            found_live lsa there.0 (has_its_key lsa there.0 own.0 own.1)
            (and_parts (is_live lsa) (is_router_lsa lsa || is_network_lsa lsa) there.1).0

pub attached_vertex : (db : Lists) → IsDatabase db → (area : AreaId) (router : RouterId)
    → (is_attached db area router ≡ true) ↔ Contains (vertices_of (lsas_of (Area area) db)) (Router router)
attached_vertex db sound area router =
    (attached_is (lsas_of (Area area) db) router, vertex_is (lsas_of (Area area) db) router (are_of_area area db sound))
