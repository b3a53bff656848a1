-- The best of the networks of each prefix, and the networks that none beats.
use Rattle.std.proofs.Common.{◌≡◌, ℕ, Bool, true, false, cond, not, eqb, ltb, List, [], ◌∷◌, ◌++◌, map, Option, None, Some, refl, sym, ap, subst, ◌∙◌}
use Rattle.std.proofs.Common.{arith, true≢false}
use Rattle.std.specs.Prelude.{◌&&◌, ◌||◌}
use Rattle.std.specs.List.{list_any, filter, flat_map}
use Rattle.std.specs.BTreeMap.{BTreeMap, get, Updates}
use Rattle.std.specs.Ordering.{eq_by_cmp}
use Rattle.std.specs.Cmp.{Equal-is}
use Rattle.std.proofs.lemmas.Bool.Decides.{nat_tests}
use Rattle.std.proofs.lemmas.List.Folds.{list_any-append}
use Rattle.lsa_codec.specs.Prefix.{Net}
use Rattle.lsa_codec.specs.Views.{net_of_lsa}
use Rattle.area_graph.specs.Area.{is_network_lsa}
use Rattle.area_routes.specs.declared.networks.Standing.{Standing}
use Rattle.lsa_codec.specs.Order.{prefix_cmp}
use Rattle.area_routes.specs.Values.{OfferValue}
use Rattle.area_routes.specs.Reached.{ReachedValue}
use Rattle.area_routes.specs.Networks.{networks, beats, network_offer}
use Rattle.area_routes.specs.steps.Standings.{standing_of, stands_before, is_after, any_before, AreStandingsOf, unbeaten}
use Rattle.area_graph.proofs.MemberLemmas.{Some-same}
use Rattle.lsa_codec.proofs.OrderLemmas.{prefix_exact}

-- ---- the order of standings

pub before_trans : (d e f i j k : ℕ) → (ltb d e || (eqb d e && ltb j i)) ≡ true
    → (ltb e f || (eqb e f && ltb k j)) ≡ true → (ltb d f || (eqb d f && ltb k i)) ≡ true
before_trans d e f i j k p q = grind (arith, nat_tests)

before_or : (d e f i j k : ℕ) → (ltb d f || (eqb d f && ltb k i)) ≡ true → (ltb d e || (eqb d e && ltb j i)) ≡ false → (ltb e f || (eqb e f && ltb k j)) ≡ true
before_or d e f i j k p q = grind (arith, nat_tests)

or_absorbs : (a b : Bool) → (b ≡ true → a ≡ true) → (a || b) ≡ a
or_absorbs true b h = refl
or_absorbs false true h = sym (h refl)
or_absorbs false false h = refl

or_absorbed : (a b : Bool) → (a ≡ true → b ≡ true) → (a || b) ≡ b
or_absorbed true b h = sym (h refl)
or_absorbed false b h = refl

or_false : (b : Bool) → (b || false) ≡ b
or_false true = refl
or_false false = refl

-- where the best is before b, b itself precedes nothing more
after_stays : (o : Option Standing) (b s : Standing) → is_after o b ≡ true → (is_after o s || stands_before b s) ≡ is_after o s
after_stays None b s h = absurd (true≢false (sym h))
after_stays (Some a) b s h = or_absorbs (stands_before a s) (stands_before b s) (λ q. before_trans a.distance b.distance s.distance a.id.0 b.id.0 s.id.0 h q)

-- where the best is not before b, b precedes all that the best precedes
after_rises : (o : Option Standing) (b s : Standing) → is_after o b ≡ false → (is_after o s || stands_before b s) ≡ stands_before b s
after_rises None b s h = refl
after_rises (Some a) b s h = or_absorbed (stands_before a s) (stands_before b s) (λ q. before_or a.distance b.distance s.distance a.id.0 b.id.0 s.id.0 q h)

-- ---- one more network

pub same_net : (a b : Net) → eq_by_cmp prefix_cmp a b ≡ true → a ≡ b
same_net a b h = prefix_exact a b ((Equal-is (prefix_cmp a b)).0 h)

any_push : (ns : List ReachedValue) (r : ReachedValue) (net : Net) (s : Standing)
    → any_before (ns ++ r ∷ []) net s ≡ (any_before ns net s || (eq_by_cmp prefix_cmp (net_of_lsa r.lsa) net && stands_before (standing_of r) s))
any_push ns r net s =
    let p : ReachedValue → Bool = λ m. eq_by_cmp prefix_cmp (net_of_lsa m.lsa) net && stands_before (standing_of m) s in
    list_any-append p ns (r ∷ []) ∙ ap (λ b. any_before ns net s || b) (or_false (p r))

module _ (ns : List ReachedValue) (r : ReachedValue) (old : BTreeMap Net Standing) (are : AreStandingsOf ns old) (kind : is_network_lsa r.lsa ≡ true) where
  -- where the best is before it, the best stay
  pub standings_stay : is_after (get prefix_cmp old (net_of_lsa r.lsa)) (standing_of r) ≡ true → AreStandingsOf (ns ++ networks (r ∷ [])) old
  standings_stay after = subst (λ (b : Bool). AreStandingsOf (ns ++ cond b (r ∷ []) []) old) (sym kind) more
    where
      more : AreStandingsOf (ns ++ r ∷ []) old
      more net s = any_push ns r net s ∙ ap (λ b. b || (eq_by_cmp prefix_cmp (net_of_lsa r.lsa) net && stands_before (standing_of r) s))
          (are net s) ∙ by (eq_by_cmp prefix_cmp (net_of_lsa r.lsa) net) refl
        where
          by : (b : Bool) → eq_by_cmp prefix_cmp (net_of_lsa r.lsa) net ≡ b
              → (is_after (get prefix_cmp old net) s || (b && stands_before (standing_of r) s)) ≡ is_after (get prefix_cmp old net) s
          by true e = after_stays (get prefix_cmp old net) (standing_of r) s
              (subst (λ (n : Net). is_after (get prefix_cmp old n) (standing_of r) ≡ true) (same_net (net_of_lsa r.lsa) net e) after)
          by false e = or_false (is_after (get prefix_cmp old net) s)

  -- where it is not, this one is the best of its prefix
  pub standings_rise : (new : BTreeMap Net Standing) → is_after (get prefix_cmp old (net_of_lsa r.lsa)) (standing_of r) ≡ false
      → Updates prefix_cmp old new (net_of_lsa r.lsa) (Some (standing_of r)) → AreStandingsOf (ns ++ networks (r ∷ [])) new
  standings_rise new ahead updates = subst (λ (b : Bool). AreStandingsOf (ns ++ cond b (r ∷ []) []) new) (sym kind) more
    where
      more : AreStandingsOf (ns ++ r ∷ []) new
      more net s =
          any_push ns r net s ∙ ap (λ b. b || (eq_by_cmp prefix_cmp (net_of_lsa r.lsa) net && stands_before (standing_of r) s)) (are net s)
          ∙ by (eq_by_cmp prefix_cmp (net_of_lsa r.lsa) net) refl ∙ sym (ap (λ (o : Option Standing). is_after o s) (updates.0 net))
        where
          by : (b : Bool) → eq_by_cmp prefix_cmp (net_of_lsa r.lsa) net ≡ b
              → (is_after (get prefix_cmp old net) s || (b && stands_before (standing_of r) s)) ≡ is_after
              (cond b (Some (standing_of r)) (get prefix_cmp old net)) s
          by true e = after_rises (get prefix_cmp old net) (standing_of r) s
              (subst (λ (n : Net). is_after (get prefix_cmp old n) (standing_of r) ≡ false) (same_net (net_of_lsa r.lsa) net e) ahead)
          by false e = or_false (is_after (get prefix_cmp old net) s)

-- where the vertex of an LSA has a prefix, it is a network, of this prefix
pub prefix_of_network : (b : Bool) (net of_lsa : Net) → Some net ≡ cond b (Some of_lsa) None → (b ≡ true) × (net ≡ of_lsa)
prefix_of_network true net of_lsa h = (refl, Some-same h)
prefix_of_network false net of_lsa h = cc

-- ---- the offers

-- the offers of each vertex in turn, if none of these networks beats it
pub unbeaten_offers : (ns rs : List ReachedValue) → flat_map (unbeaten ns) rs ≡ map network_offer
    (filter (λ n. not (list_any (λ m. beats m n) ns)) (networks rs))
unbeaten_offers ns [] = refl
unbeaten_offers ns (r ∷ rs) = by_kind (unbeaten_offers ns rs) (is_network_lsa r.lsa)
  where
    by_test : flat_map (unbeaten ns) rs ≡ map network_offer (filter (λ n. not (list_any (λ m. beats m n) ns)) (networks rs))
        → (k : Bool) → (cond k (network_offer r ∷ []) [] ++ flat_map (unbeaten ns) rs)
        ≡ map network_offer
        (cond k (r ∷ filter (λ n. not (list_any (λ m. beats m n) ns)) (networks rs)) (filter (λ n. not (list_any (λ m. beats m n) ns)) (networks rs)))
    by_test rest true = ap (λ (os : List OfferValue). network_offer r ∷ os) rest
    by_test rest false = rest

    by_kind : flat_map (unbeaten ns) rs ≡ map network_offer (filter (λ n. not (list_any (λ m. beats m n) ns)) (networks rs))
        → (b : Bool) → (cond (b && not (list_any (λ m. beats m r) ns)) (network_offer r ∷ []) [] ++ flat_map (unbeaten ns) rs)
        ≡ map network_offer (filter (λ n. not (list_any (λ m. beats m n) ns)) (cond b (r ∷ networks rs) (networks rs)))
    by_kind rest true = by_test rest (not (list_any (λ m. beats m r) ns))
    by_kind rest false = rest
