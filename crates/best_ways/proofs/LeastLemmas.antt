-- The least of a list with one more member, and what is below it.
use Rattle.std.proofs.Common.{◌≡◌, Bool, true, false, cond, List, [], ◌∷◌, ◌++◌, Option, Some, None, refl, sym, ap, ◌∙◌}
use Rattle.std.specs.List.{AllByRecursion}
use Rattle.std.specs.Cmp.{IsTotalOrder}
use Rattle.std.specs.Ordering.{is_lt, ordering_reverse}
use Rattle.std.specs.declared.cmp.Ordering.{Ordering}
use Rattle.std.specs.declared.cmp.Ordering.TheVariants.{Less, Equal, Greater}
use Rattle.std.proofs.lemmas.Cmp.{alike_right}
use Rattle.std.proofs.lemmas.Bool.{false≢true}
use Rattle.area_graph.specs.Least.{later, least, lesser}

module _ {K : Type 0} {R : K → K → Ordering} (o : IsTotalOrder R) where
  lt_from : (r : Ordering) → is_lt r ≡ true → r ≡ Less
  lt_from Less h = refl
  lt_from Equal h = absurd (false≢true h)
  lt_from Greater h = absurd (false≢true h)

  -- c is below x, and n is not
  pub lt_le : (c x n : K) → R c x ≡ Less → is_lt (R n x) ≡ false → R c n ≡ Less
  lt_le c x n h above = by (R x n) refl
    where
      by : (r : Ordering) → R x n ≡ r → R c n ≡ Less
      by Less e = o.trans c x n h e
      by Equal e = sym (alike_right o x n c e) ∙ h
      by Greater e = absurd (false≢true (sym above ∙ ap is_lt (o.antisymm n x ∙ ap ordering_reverse e)))

  -- what is not below y is not below x, where y is not below x
  pub not_below : (x y k : K) → is_lt (R k y) ≡ false → is_lt (R y x) ≡ false → is_lt (R k x) ≡ false
  not_below x y k ky yx = by (R k x) refl
    where
      by : (r : Ordering) → R k x ≡ r → is_lt r ≡ false
      by Less e = sym (ap is_lt (lt_le k x y e yx)) ∙ ky
      by Equal e = refl
      by Greater e = refl

  lesser_later : (x k : K) (m : Option K) → lesser R x (Some (later R m k)) ≡ later R (Some (lesser R x m)) k
  lesser_later x k None = refl
  lesser_later x k (Some y) = by (is_lt (R k y)) (is_lt (R y x)) refl refl
    where
      by : (p q : Bool) → is_lt (R k y) ≡ p → is_lt (R y x) ≡ q
          → cond (is_lt (R (cond p k y) x)) (cond p k y) x ≡ cond (is_lt (R k (cond q y x))) k (cond q y x)
      by true true ky yx = ap (λ b. cond b k x) (ap is_lt (o.trans k y x (lt_from _ ky) (lt_from _ yx))) ∙ sym (ap (λ b. cond b k y) ky)
      by true false ky yx = refl
      by false true ky yx = ap (λ b. cond b y x) yx ∙ sym (ap (λ b. cond b k y) ky)
      by false false ky yx = ap (λ b. cond b y x) yx ∙ sym (ap (λ b. cond b k x) (not_below x y k ky yx))

  pub least_push : (ks : List K) (k : K) → least R (ks ++ k ∷ []) ≡ Some (later R (least R ks) k)
  least_push [] k = refl
  least_push (x ∷ xs) k = ap (λ m. Some (lesser R x m)) (least_push xs k) ∙ ap Some (lesser_later x k (least R xs))

  -- what is below the least is below all
  pub below_all : (c x : K) (xs : List K) → R c (lesser R x (least R xs)) ≡ Less → (R c x ≡ Less) × AllByRecursion (λ k. R c k ≡ Less) xs
  below_all c x [] h = (h, tt)
  below_all c x (y ∷ ys) h = by (is_lt (R (lesser R y (least R ys)) x)) refl h (below_all c y ys)
    where
      by : (b : Bool) → is_lt (R (lesser R y (least R ys)) x) ≡ b → R c (cond b (lesser R y (least R ys)) x) ≡ Less
          → (R c (lesser R y (least R ys)) ≡ Less → (R c y ≡ Less) × AllByRecursion (λ k. R c k ≡ Less) ys)
          → (R c x ≡ Less) × AllByRecursion (λ k. R c k ≡ Less) (y ∷ ys)
      by true e l rest = let r = rest l in (o.trans c (lesser R y (least R ys)) x l (lt_from _ e), (r.0, r.1))
      by false e l rest = let r = rest (lt_le c x (lesser R y (least R ys)) l e) in (l, (r.0, r.1))
