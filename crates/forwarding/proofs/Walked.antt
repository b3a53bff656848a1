-- Walks: one step more, the last step, and sets that no step leaves.
use Rattle.std.proofs.Common.{◌≡◌, ℕ, ◌+◌, ◌<◌, List, [], ◌∷◌, ◌++◌, length, get_or, refl, sym, subst, arith, inl, inr, ⊎_elim, zero, suc}
use Rattle.std.specs.List.{AllPairs}
use Rattle.std.proofs.lemmas.List.Elements.{Contains-get_or}
use Rattle.area_graph.proofs.MemberLemmas.{In, Contains-from_In, In-cases, In-from_Contains}
use Rattle.forwarding.specs.Walks.{IsWalk}

module _ {V : Type 0} (next : V → List V) where
  -- a walk with one step more
  pub walk_push : (us : List V) (v u w : V) → IsWalk next v us u → In (next u) w → IsWalk next v (us ++ w ∷ []) w
  walk_push [] v u w p i = (Contains-from_In (next v) w (subst (λ (x : V). In (next x) w) (sym p) i), refl)
  walk_push (x ∷ us) v u w p i = (p.0, walk_push us x u w p.1 i)

  -- a walk without its last step
  pub record LastStep (v w : V) (us : List V) : Type 0 where
    pub before : V
    pub steps : List V
    pub walk : IsWalk next v steps before
    pub step : In (next before) w
    pub count : length us ≡ length steps + 1

  pub walk_last : (x : V) (us : List V) (v w : V) → IsWalk next v (x ∷ us) w → LastStep v w (x ∷ us)
  walk_last x [] v w p = record {
    before = v;
    steps = [];
    walk = refl;
    step = subst (λ (y : V). In (next v) y) p.1 (In-from_Contains (next v) x p.0);
    count = omega arith;
  }
  walk_last x (y ∷ us) v w p =
      let r = walk_last y us x w p.1 in
      let count : length (y ∷ us) ≡ length r.steps + 1 = r.count in record {
        before = r.before;
        steps = x ∷ r.steps;
        walk = (p.0, r.walk);
        step = r.step;
        count = omega arith;
      }

  -- walks do not leave a set that no step leaves
  pub stays_in : (seen : List V) → ((v w : V) → In seen v → In (next v) w → In seen w) → (us : List V) (v w : V) → IsWalk next v us w
      → In seen v → In seen w
  stays_in seen closed [] v w p i = subst (λ (x : V). In seen x) p i
  stays_in seen closed (x ∷ us) v w p i = stays_in seen closed us x w p.1 (closed v x i (In-from_Contains (next v) x p.0))

-- ---- pairs of members

module _ {X : Type 0} (R : X → X → Type 0) where
  abbrev pub InPairs : List X → Type 0
  InPairs [] = Unit {0}
  InPairs (x ∷ xs) = ((y : X) → In xs y → R x y) × InPairs xs

  pub InPairs-append : (xs ys : List X) → InPairs xs → InPairs ys → ((x y : X) → In xs x → In ys y → R x y) → InPairs (xs ++ ys)
  InPairs-append [] ys p q cross = q
  InPairs-append (x ∷ xs) ys p q cross = (
    λ z i. ⊎_elim (λ j. p.0 z j) (λ k. cross x z (inl refl) k) (In-cases xs ys z i),
    InPairs-append xs ys p.1 q (λ a b i j. cross a b (inr i) j),
  )

  pub AllPairs-from : (xs : List X) → InPairs xs → AllPairs R xs
  AllPairs-from [] s = λ i j d lt within. absurd (omega arith)
  AllPairs-from (k ∷ ks) s = λ i j d lt within. by i j d lt within (AllPairs-from ks s.1)
    where
      by : (i j : ℕ) (d : X) → i < j → j < length (k ∷ ks) → AllPairs R ks → R (get_or (k ∷ ks) i d) (get_or (k ∷ ks) j d)
      by i zero d lt within rest = absurd (omega arith)
      by zero (suc j) d lt within rest = s.0 (get_or ks j d) (In-from_Contains ks (get_or ks j d) (Contains-get_or ks j d (omega arith)))
      by (suc i) (suc j) d lt within rest = rest i j d (omega arith) (omega arith)

  pub InPairs-from : (xs : List X) → AllPairs R xs → InPairs xs
  InPairs-from [] s = tt
  InPairs-from (k ∷ ks) s = (
    λ x i. (let c = Contains-from_In ks x i in subst (λ (z : X). R k z) c.2 (s 0 (suc c.0) x (omega arith) (omega (arith, c.1)))),
    InPairs-from ks (λ i j d lt within. s (suc i) (suc j) d (omega arith) (omega arith)),
  )
