-- The greatest Advertising Routers of network-LSAs.
use Rattle.std.proofs.Common.{◌≡◌, ℕ, ◌+◌, ◌<◌, ◌≤◌, Bool, true, false, cond, ◌&&◌, ◌||◌, eqb, ltb, List, [], ◌∷◌, ◌++◌, length, take, get_or, filter}
use Rattle.std.proofs.Common.{Option, None, Some, refl, sym, ap, ◌∙◌, subst, arith, true≢false, append-nil}
use Rattle.std.specs.List.{list_any}
use Rattle.std.specs.HashMap.{HashMap, IsEmpty}
use Rattle.std.specs.Map.{lookup}
use Rattle.std.proofs.lemmas.List.Folds.{list_any-append}
use Rattle.std.proofs.lemmas.Bool.{eq-eqb, eqb-true, ltb-true, ltb-false, lt-ltb}
use Rattle.lsa_codec.specs.declared.address.Addr.{Addr}
use Rattle.lsa_codec.specs.declared.address.RouterId.{RouterId}
use Rattle.std.proofs.lemmas.List.Elements.{filter_more}
use Rattle.lsa_codec.specs.declared.key.Key.{Key}
use Rattle.lsa_codec.specs.Key.{key_of}
use Rattle.lsa_codec.specs.Fields.{kind_of, link_state_id_of, advertising_router_of}
use Rattle.area_graph.specs.Area.{is_network_lsa, outranks, is_outranked_by}
use Rattle.area_graph.specs.steps.Ranks.{AreRanksOf, same_address, rank_in, exceeds, ranked}

or_false : (b : Bool) → (b || false) ≡ b
or_false true = refl
or_false false = refl

any_push : (p : List ℕ → Bool) (lsas : List (List ℕ)) (lsa : List ℕ) → list_any p (lsas ++ lsa ∷ []) ≡ (list_any p lsas || p lsa)
any_push p lsas lsa = list_any-append p lsas (lsa ∷ []) ∙ ap (λ b. list_any p lsas || b) (or_false (p lsa))

or_ltb : (a b c : ℕ) → a ≤ b → (ltb c a || ltb c b) ≡ ltb c b
or_ltb a b c le = by (ltb c a) refl
  where
    by : (t : Bool) → ltb c a ≡ t → (t || ltb c b) ≡ ltb c b
    by true is = (let lt = ltb-true c a is in sym (lt-ltb c b (omega arith)))
    by false is = refl

or_ltb_right : (a b c : ℕ) → a ≤ b → (ltb c b || ltb c a) ≡ ltb c b
or_ltb_right a b c le = by (ltb c b) refl
  where
    by : (t : Bool) → ltb c b ≡ t → (t || ltb c a) ≡ t
    by true is = refl
    by false is = below (ltb c a) refl
      where
        below : (t : Bool) → ltb c a ≡ t → t ≡ false
        below true less = (let lt = ltb-true c a less in absurd (true≢false (sym (lt-ltb c b (omega arith)) ∙ is)))
        below false less = refl

-- no LSAs
pub no_ranks : {S : Type 0} (ranks : HashMap Addr RouterId S) → IsEmpty ranks → AreRanksOf [] ranks
no_ranks ranks empty id router = sym (ap (λ (es : List (Addr × RouterId)). exceeds router (lookup (same_address (record { 0 = id })) es)) empty)

-- whether others outrank an LSA, by its rank
pub outranked_by_rank : {S : Type 0} (lsas : List (List ℕ)) (ranks : HashMap Addr RouterId S) → AreRanksOf lsas ranks → (lsa : List ℕ)
    → (is_network_lsa lsa && exceeds (advertising_router_of lsa) (rank_in ranks (link_state_id_of lsa))) ≡ list_any (is_outranked_by lsa) lsas
outranked_by_rank lsas ranks are lsa = ap (λ b. is_network_lsa lsa && b) (sym (are (link_state_id_of lsa) (advertising_router_of lsa)))
    ∙ sym (any_and (is_network_lsa lsa) (outranks (link_state_id_of lsa) (advertising_router_of lsa)) lsas)
  where
    any_and : (b : Bool) (p : List ℕ → Bool) (xs : List (List ℕ)) → list_any (λ x. b && p x) xs ≡ (b && list_any p xs)
    any_and true p xs = refl
    any_and false p [] = refl
    any_and false p (x ∷ xs) = any_and false p xs

-- one more LSA, where nothing changes
pub rank_stays : {S : Type 0} (lsas : List (List ℕ)) (lsa : List ℕ) (ranks : HashMap Addr RouterId S) → AreRanksOf lsas ranks
    → (is_network_lsa lsa ≡ true → exceeds (advertising_router_of lsa) (rank_in ranks (link_state_id_of lsa)) ≡ true) → AreRanksOf (lsas ++ lsa ∷ []) ranks
rank_stays lsas lsa ranks are low id router =
    any_push (outranks id router) lsas lsa ∙ ap (λ b. b || outranks id router lsa) (are id router) ∙ by_kind (is_network_lsa lsa) refl
  where
    adv : ℕ
    adv = advertising_router_of lsa

    below : (o : Option RouterId) → exceeds adv o ≡ true → (exceeds router o || ltb router adv) ≡ exceeds router o
    below None h = absurd (true≢false (sym h))
    below (Some greatest) h = (let lt = ltb-true adv greatest.0 h in or_ltb_right adv greatest.0 router (omega arith))

    by_id : (b : Bool) → eqb (link_state_id_of lsa) id ≡ b → exceeds adv (rank_in ranks (link_state_id_of lsa)) ≡ true
        → (exceeds router (rank_in ranks id) || (b && ltb router adv)) ≡ exceeds router (rank_in ranks id)
    by_id true same h = below (rank_in ranks id) (subst (λ n. exceeds adv (rank_in ranks n) ≡ true) (eqb-true (link_state_id_of lsa) id same) h)
    by_id false other h = or_false (exceeds router (rank_in ranks id))

    by_kind : (b : Bool) → is_network_lsa lsa ≡ b → (exceeds router (rank_in ranks id) ||
        (b && (eqb (link_state_id_of lsa) id && ltb router adv))) ≡ exceeds router (rank_in ranks id)
    by_kind true is = by_id (eqb (link_state_id_of lsa) id) refl (low is)
    by_kind false is = or_false (exceeds router (rank_in ranks id))

-- one more LSA, which has the rank from now on
pub rank_rises : {S : Type 0} (lsas : List (List ℕ)) (lsa : List ℕ) (old new : HashMap Addr RouterId S) → AreRanksOf lsas old → is_network_lsa lsa ≡ true
    → exceeds (advertising_router_of lsa) (rank_in old (link_state_id_of lsa)) ≡ false
    → ((id : ℕ) → rank_in new id ≡ ranked (link_state_id_of lsa) (record { 0 = advertising_router_of lsa }) id (rank_in old id))
    → AreRanksOf (lsas ++ lsa ∷ []) new
rank_rises lsas lsa old new are kind high is id router =
    any_push (outranks id router) lsas lsa ∙ ap (λ b. b || outranks id router lsa) (are id router)
    ∙ ap (λ b. exceeds router (rank_in old id) || (b && (eqb (link_state_id_of lsa) id && ltb router adv))) kind
    ∙ by_id (eqb (link_state_id_of lsa) id) refl ∙ sym (ap (λ o. exceeds router o) (is id))
  where
    adv : ℕ
    adv = advertising_router_of lsa

    above : (o : Option RouterId) → exceeds adv o ≡ false → (exceeds router o || ltb router adv) ≡ ltb router adv
    above None h = refl
    above (Some greatest) h = or_ltb greatest.0 adv router (ltb-false adv greatest.0 h)

    by_id : (b : Bool) → eqb (link_state_id_of lsa) id ≡ b → (exceeds router (rank_in old id) || (b && ltb router adv)) ≡ exceeds router
        (cond b (Some (record { 0 = adv })) (rank_in old id))
    by_id true same = above (rank_in old id) (subst (λ n. exceeds adv (rank_in old n) ≡ false) (eqb-true (link_state_id_of lsa) id same) high)
    by_id false other = or_false (exceeds router (rank_in old id))

-- the same, by the key of the LSA
pub rank_set : {S : Type 0} (lsas : List (List ℕ)) (lsa : List ℕ) (key : Key) (old new : HashMap Addr RouterId S) → AreRanksOf lsas old
    → key ≡ key_of lsa → key.kind ≡ 2
    → exceeds key.adv.0 (rank_in old key.id.0) ≡ false → ((id : ℕ) → rank_in new id ≡ ranked key.id.0 key.adv id (rank_in old id))
    → AreRanksOf (lsas ++ lsa ∷ []) new
rank_set lsas lsa key old new are e kind high is =
    rank_rises lsas lsa old new are (eq-eqb (kind_of lsa) 2 (sym (ap (λ (k : Key). k.kind) e) ∙ kind))
    (subst (λ (k : Key). exceeds k.adv.0 (rank_in old k.id.0) ≡ false) e high)
    (λ id. is id ∙ ap (λ (k : Key). ranked k.id.0 k.adv id (rank_in old id)) e)

-- a step of a loop that keeps the items that pass
pub keep_more : {X : Type 0} (p : X → Bool) (xs : List X) (i : ℕ) (x : X) (kept new : List X) → i < length xs → x ≡ get_or xs i x → p x ≡ true
    → kept ≡ filter p (take i xs) → new ≡ kept ++ x ∷ [] → new ≡ filter p (take (i + 1) xs)
keep_more p xs i x kept new lt at pass done is =
    is ∙ ap (λ ks. ks ++ x ∷ []) done ∙ sym (filter_more p xs i x lt ∙ ap (λ y. filter p (take i xs) ++ cond (p y) (y ∷ []) []) (sym at)
    ∙ ap (λ b. filter p (take i xs) ++ cond b (x ∷ []) []) pass)

pub skip_more : {X : Type 0} (p : X → Bool) (xs : List X) (i : ℕ) (x : X) (kept new : List X) → i < length xs → x ≡ get_or xs i x → p x ≡ false
    → kept ≡ filter p (take i xs) → new ≡ kept → new ≡ filter p (take (i + 1) xs)
skip_more p xs i x kept new lt at fail done is =
    is ∙ done ∙ sym (filter_more p xs i x lt ∙ ap (λ y. filter p (take i xs) ++ cond (p y) (y ∷ []) []) (sym at)
    ∙ ap (λ b. filter p (take i xs) ++ cond b (x ∷ []) []) fail ∙ append-nil (filter p (take i xs)))
