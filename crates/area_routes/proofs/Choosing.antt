-- Which networks are chosen.
use Rattle.std.proofs.Common.{◌≡◌, ℕ, ◌<◌, ◌≤◌, Bool, true, false, not, eqb, ltb, List, [], ◌∷◌, refl, sym, ap, subst, ◌∙◌, arith, true≢false, ◌⊎◌}
use Rattle.std.proofs.Common.{inl, inr, ⊎_elim}
use Rattle.std.specs.Prelude.{◌&&◌, ◌||◌, ◌↔◌}
use Rattle.std.specs.List.{list_any, Contains}
use Rattle.std.specs.Ordering.{eq_by_cmp, is_eq}
use Rattle.std.proofs.lemmas.Bool.{and_parts, and_from, cases_lt, eq-eqb, lt-ltb}
use Rattle.std.proofs.lemmas.Bool.Decides.{nat_tests}
use Rattle.std.proofs.lemmas.Cmp.{tied_itself}
use Rattle.lsa_codec.specs.Fields.{link_state_id_of}
use Rattle.lsa_codec.specs.Prefix.{Net}
use Rattle.lsa_codec.specs.Views.{net_of_lsa}
use Rattle.area_graph.proofs.MemberLemmas.{In, In-from_Contains, Contains-from_In, In-filter, filter-In, In-list_any, list_any-In}
use Rattle.lsa_codec.specs.Order.{prefix_cmp}
use Rattle.area_routes.specs.Reached.{ReachedValue}
use Rattle.area_routes.specs.Networks.{precedes, beats, chosen}
use Rattle.area_routes.specs.Choice.{IsAsGoodAs, IsBestOf}
use Rattle.lsa_codec.proofs.OrderLemmas.{prefix_total}
use Rattle.area_routes.proofs.Beaten.{before_trans, same_net}

-- ---- numbers

not_before : (d e i j : ℕ) → (ltb d e || (eqb d e && ltb j i)) ≡ false → (e < d) ⊎ ((e ≡ d) × (i ≤ j))
not_before d e i j h =
    ⊎_elim (λ lt. inl lt)
    (λ le. ⊎_elim
    (λ lt. absurd (true≢false (sym (before_less d e i j lt) ∙ h)))
    (λ ge. inr (omega arith, ⊎_elim (λ more. absurd (true≢false (sym (before_tied d e i j (omega arith) more) ∙ h))) (λ few. few) (cases_lt j i)))
    (cases_lt d e))
    (cases_lt e d)
  where
    before_less : (d e i j : ℕ) → d < e → (ltb d e || (eqb d e && ltb j i)) ≡ true
    before_less d e i j lt = ap (λ b. b || (eqb d e && ltb j i)) (lt-ltb d e lt)

    or_true : (b : Bool) → (b || true) ≡ true
    or_true true = refl
    or_true false = refl

    before_tied : (d e i j : ℕ) → d ≡ e → j < i → (ltb d e || (eqb d e && ltb j i)) ≡ true
    before_tied d e i j same more = ap (λ b. ltb d e || b) (and_from (eqb d e) (ltb j i) (eq-eqb d e same) (lt-ltb j i more)) ∙ or_true (ltb d e)

as_good_not_before : (d e i j : ℕ) → (e < d) ⊎ ((e ≡ d) × (i ≤ j)) → (ltb d e || (eqb d e && ltb j i)) ≡ true → ⊥
as_good_not_before d e i j (inl lt) h = grind (arith, nat_tests)
as_good_not_before d e i j (inr p) h = (let same = p.0 in let few = p.1 in grind (arith, nat_tests))

-- ---- beaten by none

beats_from : (m n : ReachedValue) → net_of_lsa m.lsa ≡ net_of_lsa n.lsa → precedes m n ≡ true → beats m n ≡ true
beats_from m n same before =
    and_from (eq_by_cmp prefix_cmp (net_of_lsa m.lsa) (net_of_lsa n.lsa)) (precedes m n)
    (subst (λ (q : Net). eq_by_cmp prefix_cmp (net_of_lsa m.lsa) q ≡ true) same (ap is_eq (tied_itself prefix_total (net_of_lsa m.lsa)))) before

beats_parts : (m n : ReachedValue) → beats m n ≡ true → (net_of_lsa m.lsa ≡ net_of_lsa n.lsa) × (precedes m n ≡ true)
beats_parts m n h =
    let parts = and_parts (eq_by_cmp prefix_cmp (net_of_lsa m.lsa) (net_of_lsa n.lsa)) (precedes m n) h in
    (same_net (net_of_lsa m.lsa) (net_of_lsa n.lsa) parts.0, parts.1)

false_from_not : (b : Bool) → not b ≡ true → b ≡ false
false_from_not true h = sym h
false_from_not false h = refl

decided : (b : Bool) → (b ≡ true) ⊎ (b ≡ false)
decided true = inl refl
decided false = inr refl

-- one of the list such that no other of its prefix precedes it
abbrev IsAhead : List ReachedValue → ReachedValue → Type 0
IsAhead ns n = In ns n × ((m : ReachedValue) → In ns m → net_of_lsa m.lsa ≡ net_of_lsa n.lsa → precedes m n ≡ false)

chosen_ahead : (ns : List ReachedValue) (n : ReachedValue) → In (chosen ns) n → IsAhead ns n
chosen_ahead ns n i =
    let kept = filter-In (λ k. not (list_any (λ m. beats m k) ns)) ns n i in (
      kept.0,
      λ m j same. ⊎_elim
          (λ before. absurd
          (true≢false (sym (In-list_any (λ k. beats k n) ns m j (beats_from m n same before)) ∙ false_from_not (list_any (λ k. beats k n) ns) kept.1)))
          (λ not_so. not_so)
          (decided (precedes m n)),
    )

ahead_chosen : (ns : List ReachedValue) (n : ReachedValue) → IsAhead ns n → In (chosen ns) n
ahead_chosen ns n ahead = In-filter (λ k. not (list_any (λ m. beats m k) ns)) ns n ahead.0 (by (list_any (λ m. beats m n) ns) refl)
  where
    by : (b : Bool) → list_any (λ m. beats m n) ns ≡ b → not (list_any (λ m. beats m n) ns) ≡ true
    by false e = ap not e
    by true e =
        let found = list_any-In (λ m. beats m n) ns e in
        let parts = beats_parts found.0 n found.2 in
        absurd (true≢false (sym parts.1 ∙ ahead.1 found.0 found.1 parts.0))

as_good : (n m : ReachedValue) → precedes m n ≡ false → IsAsGoodAs n m
as_good n m h = not_before m.distance n.distance (link_state_id_of m.lsa) (link_state_id_of n.lsa) h

-- those chosen are the best
pub chosen_best : (ns : List ReachedValue) (n : ReachedValue) → Contains (chosen ns) n ↔ IsBestOf ns n
chosen_best ns n = (
  λ c.
      (let ahead = chosen_ahead ns n (In-from_Contains (chosen ns) n c) in
      record { one = Contains-from_In ns n ahead.0; best = λ m d same. as_good n m (ahead.1 m (In-from_Contains ns m d) same) }),
  λ best. Contains-from_In (chosen ns) n (ahead_chosen ns n (
    In-from_Contains ns n best.one,
    λ m i same. ⊎_elim
        (λ before. absurd
        (as_good_not_before m.distance n.distance (link_state_id_of m.lsa) (link_state_id_of n.lsa) (best.best m (Contains-from_In ns m i) same) before))
        (λ not_so. not_so)
        (decided (precedes m n)),
  )),
)

-- ---- one of each prefix

-- for a prefix there is none, or one that is ahead
abbrev IsSettled : Net → List ReachedValue → Type 0
IsSettled p ns =
    ((m : ReachedValue) → In ns m → net_of_lsa m.lsa ≡ p → ⊥)
    ⊎ ((n : ReachedValue) × In ns n × (net_of_lsa n.lsa ≡ p) × ((m : ReachedValue) → In ns m → net_of_lsa m.lsa ≡ p → precedes m n ≡ false))

itself : (x : ReachedValue) → precedes x x ≡ false
itself x = by (precedes x x) refl
  where
    by : (b : Bool) → precedes x x ≡ b → b ≡ false
    by false e = refl
    by true e = absurd (as_good_not_before x.distance x.distance (link_state_id_of x.lsa) (link_state_id_of x.lsa) (inr (refl, omega arith)) e)

-- what precedes one that is ahead is ahead
still_ahead : (k x n : ReachedValue) → precedes x n ≡ true → precedes k n ≡ false → precedes k x ≡ false
still_ahead k x n before not_k =
    ⊎_elim
    (λ h. absurd
    (true≢false
    (sym (before_trans k.distance x.distance n.distance (link_state_id_of k.lsa) (link_state_id_of x.lsa) (link_state_id_of n.lsa) h before) ∙ not_k)))
    (λ not_so. not_so)
    (decided (precedes k x))

settled : (p : Net) (ns : List ReachedValue) → IsSettled p ns
settled p [] = inl (λ m i e. i)
settled p (x ∷ xs) = by (decided (eq_by_cmp prefix_cmp (net_of_lsa x.lsa) p)) (settled p xs)
  where
    other : eq_by_cmp prefix_cmp (net_of_lsa x.lsa) p ≡ false → (m : ReachedValue) → x ≡ m → net_of_lsa m.lsa ≡ p → ⊥
    other differs m e same = true≢false (sym (ap is_eq (tied_itself prefix_total p))
        ∙ ap (λ (q : Net). eq_by_cmp prefix_cmp q p) (sym (ap (λ (r : ReachedValue). net_of_lsa r.lsa) e ∙ same)) ∙ differs)

    by : (eq_by_cmp prefix_cmp (net_of_lsa x.lsa) p ≡ true) ⊎ (eq_by_cmp prefix_cmp (net_of_lsa x.lsa) p ≡ false) → IsSettled p xs → IsSettled p (x ∷ xs)
    by (inr differs) (inl none) = inl (λ m i same. ⊎_elim (λ e. other differs m e same) (λ j. none m j same) i)
    by (inr differs) (inr (n, i, e, ahead)) = inr (n, inr i, e, λ m j same. ⊎_elim (λ q. absurd (other differs m q same)) (λ k. ahead m k same) j)
    by (inl agrees) (inl none) = inr (
      x,
      inl refl,
      same_net (net_of_lsa x.lsa) p agrees,
      λ m j same. ⊎_elim
          (λ q. subst (λ (r : ReachedValue). precedes r x ≡ false) q (itself x)) (λ k. absurd (none m k same)) j,
    )
    by (inl agrees) (inr (n, i, e, ahead)) =
        ⊎_elim
        (λ before. inr (
          x,
          inl refl,
          same_net (net_of_lsa x.lsa) p agrees,
          λ m j same. ⊎_elim
              (λ q. subst (λ (r : ReachedValue). precedes r x ≡ false) q (itself x)) (λ k. still_ahead m x n before (ahead m k same)) j,
        ))
        (λ not_so. inr (n, inr i, e, λ m j same. ⊎_elim (λ q. subst (λ (r : ReachedValue). precedes r n ≡ false) q not_so) (λ k. ahead m k same) j))
        (decided (precedes x n))

pub chosen_each : (ns : List ReachedValue) (m : ReachedValue) → Contains ns m
    → (n : ReachedValue) × Contains (chosen ns) n × (net_of_lsa n.lsa ≡ net_of_lsa m.lsa)
chosen_each ns m c = by (settled (net_of_lsa m.lsa) ns)
  where
    by : IsSettled (net_of_lsa m.lsa) ns → (n : ReachedValue) × Contains (chosen ns) n × (net_of_lsa n.lsa ≡ net_of_lsa m.lsa)
    by (inl none) = absurd (none m (In-from_Contains ns m c) refl)
    by (inr (n, i, e, ahead)) = (n, Contains-from_In (chosen ns) n (ahead_chosen ns n (i, λ k j same. ahead k j (same ∙ e))), e)

one_id : (d e i j : ℕ) → (e < d) ⊎ ((e ≡ d) × (i ≤ j)) → (d < e) ⊎ ((d ≡ e) × (j ≤ i)) → i ≡ j
one_id d e i j (inl p) (inl q) = absurd (omega arith)
one_id d e i j (inl p) (inr q) = (let same = q.0 in absurd (omega arith))
one_id d e i j (inr p) (inl q) = (let same = p.0 in absurd (omega arith))
one_id d e i j (inr p) (inr q) = (let few = p.1 in let more = q.1 in omega arith)

pub chosen_one : (ns : List ReachedValue) (m n : ReachedValue) → Contains (chosen ns) m → Contains (chosen ns) n
    → net_of_lsa m.lsa ≡ net_of_lsa n.lsa → link_state_id_of m.lsa ≡ link_state_id_of n.lsa
chosen_one ns m n c d same =
    let a = chosen_ahead ns m (In-from_Contains (chosen ns) m c) in
    let b = chosen_ahead ns n (In-from_Contains (chosen ns) n d) in
    one_id m.distance n.distance (link_state_id_of m.lsa) (link_state_id_of n.lsa) (as_good n m (b.1 m a.0 same)) (as_good m n (a.1 n b.0 (sym same)))
