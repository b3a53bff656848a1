-- The LSAs in use of an area.
use Rattle.std.proofs.Common.{◌≡◌, ◌≢◌, ℕ, ◌<◌, ◌≤◌, Bool, true, false, not, eqb, ltb, List, [], map, length, get_or, refl, sym, subst, ap, ◌∙◌, ◌⊎◌}
use Rattle.std.proofs.Common.{inl, inr, ⊎_elim, arith, true≢false}
use Rattle.std.specs.Prelude.{◌&&◌, ◌||◌}
use Rattle.std.specs.List.{AllPairs, All, list_any}
use Rattle.std.proofs.lemmas.List.{length-map, get_or-map}
use Rattle.std.proofs.lemmas.List.Elements.{All-filter, Contains-get_or}
use Rattle.std.proofs.lemmas.List.Kept.{AllPairs-filter}
use Rattle.std.proofs.lemmas.List.Sums.{length-filter, count_by-le-length}
use Rattle.std.proofs.lemmas.Bool.{cases_lt, eq-eqb, eqb-true, lt-ltb, and_parts, and_from}
use Rattle.lsa_codec.specs.Fields.{kind_of, link_state_id_of, advertising_router_of}
use Rattle.lsa_codec.specs.Key.{key_of}
use Rattle.lsa_codec.specs.Accepted.{IsAccepted}
use Rattle.area_graph.specs.Vertex.{is_network}
use Rattle.area_graph.specs.Area.{is_live, is_router_lsa, is_network_lsa, is_vertex_lsa, vertex_lsas, outranks, is_outranked_by, used, vertex_of}
use Rattle.area_graph.proofs.MemberLemmas.{In, In-from_Contains, filter-In, In-list_any}
use Rattle.area_graph.proofs.AreaLemmas.{number_in, number_of_vertex, kind_of_vertex}

-- an LSA that no other of a list outranks
abbrev IsHighest : List (List ℕ) → List ℕ → Type 0
IsHighest live lsa = In live lsa × (list_any (is_outranked_by lsa) live ≡ false)

pub false_from_not : (b : Bool) → not b ≡ true → b ≡ false
false_from_not false h = refl
false_from_not true h = absurd (true≢false (sym h))

-- LSAs of one vertex have one Link State ID and one type
one_id : (a b : List ℕ) → vertex_of a ≡ vertex_of b → link_state_id_of a ≡ link_state_id_of b
one_id a b e = sym (number_of_vertex a) ∙ ap number_in e ∙ number_of_vertex b

one_kind : (a b : List ℕ) → vertex_of a ≡ vertex_of b → is_router_lsa a ≡ true → is_router_lsa b ≡ false → ⊥
one_kind a b e ra rb = true≢false (sym (kind_of_vertex b false rb) ∙ sym (ap is_network e) ∙ kind_of_vertex a true ra)

not_below : (live : List (List ℕ)) (a b : List ℕ) → IsHighest live a → In live b → kind_of a ≡ 2 → kind_of b ≡ 2
    → link_state_id_of b ≡ link_state_id_of a → advertising_router_of a < advertising_router_of b → ⊥
not_below live a b top there ka kb id lt =
    let over : is_outranked_by a b ≡ true =
    and_from (is_network_lsa a) (outranks (link_state_id_of a) (advertising_router_of a) b) (eq-eqb (kind_of a) 2 ka)
    (and_from (is_network_lsa b) (eqb (link_state_id_of b) (link_state_id_of a) && ltb (advertising_router_of a) (advertising_router_of b))
    (eq-eqb (kind_of b) 2 kb)
    (and_from (eqb (link_state_id_of b) (link_state_id_of a)) (ltb (advertising_router_of a) (advertising_router_of b)) (eq-eqb _ _ id)
    (lt-ltb (advertising_router_of a) (advertising_router_of b) lt))) in
    true≢false (sym (In-list_any (is_outranked_by a) live b there over) ∙ top.1)

one_adv : (live : List (List ℕ)) (a b : List ℕ) → IsHighest live a → IsHighest live b → kind_of a ≡ 2 → kind_of b ≡ 2
    → link_state_id_of a ≡ link_state_id_of b → advertising_router_of a ≡ advertising_router_of b
one_adv live a b ta tb ka kb id =
    ⊎_elim (λ lt. absurd (not_below live a b ta tb.0 ka kb (sym id) lt))
    (λ ge. ⊎_elim (λ lt. absurd (not_below live b a tb ta.0 kb ka id lt)) (λ le. omega arith) (cases_lt (advertising_router_of b) (advertising_router_of a)))
    (cases_lt (advertising_router_of a) (advertising_router_of b))

pub origin_of : (a : List ℕ) → IsAccepted a → kind_of a ≡ 1 → link_state_id_of a ≡ advertising_router_of a
origin_of a accepted one =
    eqb-true _ _ (subst (λ b. (not b || eqb (link_state_id_of a) (advertising_router_of a)) ≡ true) (eq-eqb (kind_of a) 1 one) accepted.origin)

-- a router-LSA or a network-LSA
pub kind_cases : (lsa : List ℕ) → is_vertex_lsa lsa ≡ true → (is_router_lsa lsa ≡ true) ⊎ ((is_router_lsa lsa ≡ false) × (is_network_lsa lsa ≡ true))
kind_cases lsa h = by (is_router_lsa lsa) refl (and_parts (is_live lsa) (is_router_lsa lsa || is_network_lsa lsa) h).1
  where
    by : (b : Bool) → is_router_lsa lsa ≡ b → (b || is_network_lsa lsa) ≡ true
        → (is_router_lsa lsa ≡ true) ⊎ ((is_router_lsa lsa ≡ false) × (is_network_lsa lsa ≡ true))
    by true is k = inl is
    by false is k = inr (is, k)

-- two of them with one vertex have one key
one_key : (live : List (List ℕ)) (a b : List ℕ) → IsAccepted a → IsAccepted b → IsHighest live a → IsHighest live b → is_vertex_lsa a ≡ true
    → is_vertex_lsa b ≡ true → vertex_of a ≡ vertex_of b → key_of a ≡ key_of b
one_key live a b aa ab ha hb va vb e = by (kind_cases a va) (kind_cases b vb)
  where
    same : kind_of a ≡ kind_of b → advertising_router_of a ≡ advertising_router_of b → key_of a ≡ key_of b
    same k adv = λ i. record { kind = k i; id = record { 0 = one_id a b e i }; adv = record { 0 = adv i } }

    by : (is_router_lsa a ≡ true) ⊎ ((is_router_lsa a ≡ false) × (is_network_lsa a ≡ true))
        → (is_router_lsa b ≡ true) ⊎ ((is_router_lsa b ≡ false) × (is_network_lsa b ≡ true)) → key_of a ≡ key_of b
    by (inl ra) (inl rb) =
        let ka = eqb-true (kind_of a) 1 ra in
        let kb = eqb-true (kind_of b) 1 rb in
        same (ka ∙ sym kb) (sym (origin_of a aa ka) ∙ one_id a b e ∙ origin_of b ab kb)
    by (inl ra) (inr rb) = absurd (one_kind a b e ra rb.0)
    by (inr ra) (inl rb) = absurd (one_kind b a (sym e) rb ra.0)
    by (inr ra) (inr rb) =
        let ka = eqb-true (kind_of a) 2 ra.1 in
        let kb = eqb-true (kind_of b) 2 rb.1 in
        same (ka ∙ sym kb) (one_adv live a b ha hb ka kb (one_id a b e))

pub used_In : (lsas : List (List ℕ)) (lsa : List ℕ) → In (used lsas) lsa → In lsas lsa × (is_vertex_lsa lsa ≡ true) × IsHighest (vertex_lsas lsas) lsa
unfolding used
used_In lsas lsa i =
    let top = filter-In (λ lsa. not (list_any (is_outranked_by lsa) (vertex_lsas lsas))) (vertex_lsas lsas) lsa i in
    let live = filter-In is_vertex_lsa lsas lsa top.0 in
    (live.0, live.1, (top.0, false_from_not (list_any (is_outranked_by lsa) (vertex_lsas lsas)) top.1))

pub used_accepted : (lsas : List (List ℕ)) → All IsAccepted lsas → All IsAccepted (used lsas)
unfolding used
used_accepted lsas accepted = All-filter (λ lsa. not (list_any (is_outranked_by lsa) (vertex_lsas lsas))) IsAccepted
    (vertex_lsas lsas) (All-filter is_vertex_lsa IsAccepted lsas accepted)

pub used_few : (lsas : List (List ℕ)) → length (used lsas) ≤ length lsas
unfolding used
used_few lsas =
    let top : List ℕ → Bool = λ lsa. not (list_any (is_outranked_by lsa) (vertex_lsas lsas)) in
    let a = length-filter top (vertex_lsas lsas) in
    let b = count_by-le-length top (vertex_lsas lsas) in
    let c = length-filter is_vertex_lsa lsas in
    let d = count_by-le-length is_vertex_lsa lsas in
    omega arith

pub vertices_few : (lsas : List (List ℕ)) → length lsas ≤ 8192 → length (map vertex_of (used lsas)) ≤ 8192
vertices_few lsas few =
    let one = length-map (used lsas) vertex_of in
    let two = used_few lsas in
    omega arith

used_pairs : (R : List ℕ → List ℕ → Type 0) (lsas : List (List ℕ)) → AllPairs R lsas → AllPairs R (used lsas)
unfolding used
used_pairs R lsas pairs = AllPairs-filter R (λ lsa. not (list_any (is_outranked_by lsa) (vertex_lsas lsas)))
    (vertex_lsas lsas) (AllPairs-filter R is_vertex_lsa lsas pairs)

-- the vertices of an area are distinct
pub vertices_distinct : (lsas : List (List ℕ)) → All IsAccepted lsas → AllPairs (λ a b. key_of a ≢ key_of b) lsas
    → AllPairs (λ v w. v ≢ w) (map vertex_of (used lsas))
vertices_distinct lsas accepted keys i j d below lt same =
    let us = used lsas in
    let sized = length-map us vertex_of in
    let ltj : j < length us = omega arith in
    let lti : i < length us = omega arith in
    let a = get_or us i [] in
    let b = get_or us j [] in
    let e : vertex_of a ≡ vertex_of b = sym (get_or-map vertex_of us i [] d lti) ∙ same ∙ get_or-map vertex_of us j [] d ltj in
    let ia = In-from_Contains us a (Contains-get_or us i [] lti) in
    let ib = In-from_Contains us b (Contains-get_or us j [] ltj) in
    let ua = used_In lsas a ia in
    let ub = used_In lsas b ib in
    let all = used_accepted lsas accepted in
    used_pairs (λ x y. key_of x ≢ key_of y) lsas keys i j [] below ltj
    (one_key (vertex_lsas lsas) a b (all i [] lti) (all j [] ltj) ua.2 ub.2 ua.1 ub.1 e)
