-- The first part of a text that is split, by the position of the first byte at which it is.
use Rattle.std.proofs.Common.{◌≡◌, ℕ, ◌+◌, ◌<◌, Bool, List, [], ◌∷◌, length, take, drop, Some, None, inl, inr, ◌-◌, ◌∙◌, subst, arith}
use Rattle.std.specs.List.{slice_split, position, position_or_len}
use Rattle.std.proofs.lemmas.Bool.{cases_lt, cond-true, cond-false, lt-ltb, le-ltb}
use Rattle.std.specs.Prelude.{not}
use Rattle.std.proofs.lemmas.List.Sums.{fails_before_first, prefix_len-le-length}
use Rattle.std.proofs.lemmas.List.{take_all, drop-drop, length-drop}
use Rattle.std.proofs.lemmas.List.Splits.{slice_split_none, slice_split_first}

-- p of X = ℕ, as the code finds it
pub cut_none : (p : ℕ → Bool) (xs : List ℕ) → position p xs ≡ None → slice_split p xs ≡ xs ∷ []
cut_none p xs h =
    elim (cases_lt (position_or_len p xs) (length xs)) [
      | inl lt ↦ absurd (let e : position p xs ≡ Some (position_or_len p xs) = cond-true _ _ _ (lt-ltb _ _ lt) in cc)
      | inr le ↦ slice_split_none p xs (λ k d lt. fails_before_first p xs k d (omega arith))
    ]

pub cut_some : (p : ℕ → Bool) (xs : List ℕ) (i : ℕ) → position p xs ≡ Some i
    → (i < length xs) × (slice_split p xs ≡ take i xs ∷ slice_split p (drop (i + 1) xs))
cut_some p xs i h =
    elim (cases_lt (position_or_len p xs) (length xs)) [
      | inl lt ↦
          let e : position p xs ≡ Some (position_or_len p xs) = cond-true _ _ _ (lt-ltb _ _ lt) in
          let same : position_or_len p xs ≡ i = cc in
          (omega arith, subst (λ (j : ℕ). slice_split p xs ≡ take j xs ∷ slice_split p (drop (j + 1) xs)) same (slice_split_first p xs 0 lt))
      | inr le ↦ absurd (let e : position p xs ≡ None = cond-false _ _ _ (le-ltb _ _ le) in cc)
    ]

-- the same at a tail, as the code takes it
pub drop_one : (i : ℕ) (xs : List ℕ) → take (length (drop i xs) - 1) (drop 1 (drop i xs)) ≡ drop (i + 1) xs
drop_one i xs = take_all _ (drop 1 (drop i xs)) (omega (arith, length-drop 1 (drop i xs))) ∙ drop-drop 1 i xs

-- ---- the length of the first part

pub word_some : (p : ℕ → Bool) (xs : List ℕ) (i : ℕ) → position p xs ≡ Some i → i ≡ position_or_len p xs
word_some p xs i h =
    elim (cases_lt (position_or_len p xs) (length xs)) [
      | inl lt ↦ let e : position p xs ≡ Some (position_or_len p xs) = cond-true _ _ _ (lt-ltb _ _ lt) in cc
      | inr le ↦ absurd (let e : position p xs ≡ None = cond-false _ _ _ (le-ltb _ _ le) in cc)
    ]

pub word_none : (p : ℕ → Bool) (xs : List ℕ) → position p xs ≡ None → length xs ≡ position_or_len p xs
word_none p xs h =
    elim (cases_lt (position_or_len p xs) (length xs)) [
      | inl lt ↦ absurd (let e : position p xs ≡ Some (position_or_len p xs) = cond-true _ _ _ (lt-ltb _ _ lt) in cc)
      | inr le ↦ omega (arith, prefix_len-le-length (λ x. not (p x)) xs)
    ]
