-- The common front of two words, byte by byte.
use Rattle.std.proofs.Common.{◌≡◌, ℕ, ◌+◌, ◌-◌, ◌<◌, ◌≤◌, List, [], ◌∷◌, length, get_or, drop, cond, eqb, min, drop-cons, add-one, refl, sym, ap, ◌∙◌, arith, inl, inr, ◌⊎◌, eq-zero-or-pos}
use Rattle.std.specs.Prelude.{reverse}
use Rattle.std.proofs.lemmas.Bool.{eq-eqb, ne_eqb}
use Rattle.std.proofs.lemmas.List.{drop_all, get_or-reverse, length-reverse}
use Rattle.study_hints.specs.Near.{common}

at_place : (s : List ℕ) (i : ℕ) → i < length s → drop i s ≡ get_or s i 0 ∷ drop (i + 1) s
at_place s i h = drop-cons s i 0 h ∙ ap (λ n. get_or s i 0 ∷ drop n s) (sym (add-one i))

nothing_common : (word : List ℕ) → common word [] ≡ 0
nothing_common [] = refl
nothing_common (a ∷ word) = refl

one_is_shorter : (m n i : ℕ) → min m n ≤ i → (m ≤ i) ⊎ (n ≤ i)
one_is_shorter m n i le =
    elim (eq-zero-or-pos (m - i)) [
      | inl within ↦ inl (omega arith)
      | inr above ↦ inr (omega arith)
    ]

module _ (word other : List ℕ) (i : ℕ) where
  first_two : i < length word → i < length other
      → common (drop i word) (drop i other) ≡ cond (eqb (get_or word i 0) (get_or other i 0)) (common (drop (i + 1) word) (drop (i + 1) other) + 1) 0
  first_two a b = ap (λ w. common w (drop i other)) (at_place word i a) ∙ ap (common (get_or word i 0 ∷ drop (i + 1) word)) (at_place other i b)

  -- one more byte that is the same
  pub one_more : i < length word → i < length other → get_or word i 0 ≡ get_or other i 0
      → common word other ≡ i + common (drop i word) (drop i other) → common word other ≡ i + 1 + common (drop (i + 1) word) (drop (i + 1) other)
  one_more a b same so_far =
      let rest = common (drop (i + 1) word) (drop (i + 1) other) in
      let is : common (drop i word) (drop i other) ≡ rest + 1 =
      first_two a b ∙ ap (λ t. cond t (rest + 1) 0) (eq-eqb (get_or word i 0) (get_or other i 0) same) in
      omega (arith, is, so_far)

  -- the first byte that differs
  pub ends_here : i < length word → i < length other → (get_or word i 0 ≡ get_or other i 0 → ⊥)
      → common word other ≡ i + common (drop i word) (drop i other) → i ≡ common word other
  ends_here a b differ so_far =
      let rest = common (drop (i + 1) word) (drop (i + 1) other) in
      let is : common (drop i word) (drop i other) ≡ 0 =
      first_two a b ∙ ap (λ t. cond t (rest + 1) 0) (ne_eqb (get_or word i 0) (get_or other i 0) differ) in
      omega (arith, is, so_far)

  none_left : min (length word) (length other) ≤ i → common (drop i word) (drop i other) ≡ 0
  none_left le =
      elim (one_is_shorter (length word) (length other) i le) [
        | inl a ↦ ap (λ w. common w (drop i other)) (drop_all i word a)
        | inr b ↦ ap (common (drop i word)) (drop_all i other b) ∙ nothing_common (drop i word)
      ]

  -- the end of the shorter word
  pub all_common : (n : ℕ) → n ≡ min (length word) (length other) → n ≤ i → i ≤ n
      → common word other ≡ i + common (drop i word) (drop i other) → n ≡ common word other
  all_common n is done within so_far =
      let none : common (drop i word) (drop i other) ≡ 0 = none_left (omega (arith, is, done)) in
      omega (arith, none, so_far)

-- ---- from the ends

module _ (word other : List ℕ) (i : ℕ) (a : i < length word) (b : i < length other) where
  last_of : get_or (reverse word) i 0 ≡ get_or word (length word - 1 - i) 0
  last_of = get_or-reverse word i 0 a

  last_of_other : get_or (reverse other) i 0 ≡ get_or other (length other - 1 - i) 0
  last_of_other = get_or-reverse other i 0 b

  in_word : i < length (reverse word)
  in_word = omega (arith, length-reverse word)

  in_other : i < length (reverse other)
  in_other = omega (arith, length-reverse other)

  pub one_more_at_end : get_or word (length word - 1 - i) 0 ≡ get_or other (length other - 1 - i) 0
      → common (reverse word) (reverse other) ≡ i + common (drop i (reverse word)) (drop i (reverse other))
      → common (reverse word) (reverse other) ≡ i + 1 + common (drop (i + 1) (reverse word)) (drop (i + 1) (reverse other))
  one_more_at_end same so_far =
      one_more (reverse word) (reverse other) i in_word in_other (last_of ∙ same ∙ sym last_of_other) so_far

  pub end_ends_here : (get_or word (length word - 1 - i) 0 ≡ get_or other (length other - 1 - i) 0 → ⊥)
      → common (reverse word) (reverse other) ≡ i + common (drop i (reverse word)) (drop i (reverse other))
      → i ≡ common (reverse word) (reverse other)
  end_ends_here differ so_far =
      ends_here (reverse word) (reverse other) i in_word in_other (λ same. differ (sym last_of ∙ same ∙ last_of_other)) so_far

pub all_common_at_end : (word other : List ℕ) (i n : ℕ) → n ≡ min (length word) (length other) → n ≤ i → i ≤ n
    → common (reverse word) (reverse other) ≡ i + common (drop i (reverse word)) (drop i (reverse other))
    → n ≡ common (reverse word) (reverse other)
all_common_at_end word other i n is done within so_far =
    all_common (reverse word) (reverse other) i n (is ∙ ap (λ m. min m (length other)) (sym (length-reverse word)) ∙ ap (min (length (reverse word))) (sym (length-reverse other)))
    done within so_far
