-- The table of bytes is held against the texts of all 256 numbers, by computing.
use Rattle.std.proofs.Common.{◌≡◌, ℕ, zero, suc, ◌+◌, ◌-◌, ◌*◌, ◌/◌, ◌%◌, ◌<◌, ◌≤◌, Bool, true, false, ◌&&◌, List, [], ◌∷◌, ◌++◌, length, take, drop, set, replicate, decimal, refl, arith, inl, inr, ap, ◌∙◌, sym, eq-zero-or-pos}
use Rattle.std.specs.List.{between}
use Rattle.std.specs.Str.{bytes_eq}
use Rattle.std.proofs.Math.Dec.{leb}
use Rattle.std.proofs.lemmas.Bool.{cases_eq, le-leb, lt-leb}
use Rattle.std.proofs.lemmas.Fmt.{decimal_digit, decimal_step, length-decimal-le}
use Rattle.std.proofs.lemmas.List.{append_assoc, drop-drop, drop_at, drop-set, length-append, length-drop, length-replicate, length-take-le, take_all}
use Rattle.std.proofs.lemmas.Slice.{put_mid-paste}
use Rattle.std.proofs.lemmas.Slice.Eq.{bytes_eq-Decides}
use borrow.Rule.Slice.PartMut.{mid_of, put_mid}
use mir.Val.{bool_byte}

-- a number as text, after the dots that make it four characters
abbrev pub dotted : ℕ → List ℕ
dotted n = replicate (4 - length (decimal n)) 46 ++ decimal n

-- ---- the text, digit by digit

-- the first digit, and a dot where there is none
unfoldable pub first : ℕ → ℕ
first zero = 46
first (suc n) = 48 + suc n

-- the second digit, and a dot where there is none
unfoldable pub second : ℕ → ℕ
second zero = 46
second (suc n) = 48 + suc n % 10

first_is : (n : ℕ) → 0 < n → first n ≡ 48 + n
unfolding first
first_is zero h = absurd (omega arith)
first_is (suc n) h = refl

second_is : (n : ℕ) → 0 < n → second n ≡ 48 + n % 10
unfolding second
second_is zero h = absurd (omega arith)
second_is (suc n) h = refl

abbrev pub digits_of : ℕ → List ℕ
digits_of n = 46 ∷ first (n / 100) ∷ second (n / 10) ∷ (48 + n % 10) ∷ []

pub two_digits : (n : ℕ) → 10 ≤ n → n < 100 → decimal n ≡ (48 + n / 10) ∷ (48 + n % 10) ∷ []
two_digits n low high = rw (decimal_step n low (omega arith), decimal_digit (n / 10) (omega arith)) refl

pub three_digits : (n : ℕ) → 100 ≤ n → n < 256 → decimal n ≡ (48 + n / 100) ∷ (48 + n / 10 % 10) ∷ (48 + n % 10) ∷ []
three_digits n low high =
    let hundreds : n / 10 / 10 ≡ n / 100 = omega arith in
    rw (decimal_step n (omega arith) (omega arith), two_digits (n / 10) (omega arith) (omega arith), hundreds) refl

dotted_is : (n : ℕ) → n < 256 → digits_of n ≡ dotted n
unfolding first second
dotted_is n high =
    elim (eq-zero-or-pos (10 - n)) [
      | inr low ↦
          let a : n / 100 ≡ 0 = omega arith in let b : n / 10 ≡ 0 = omega arith in let d : n % 10 ≡ n = omega arith in
          rw (a, b, d, decimal_digit n (omega arith)) refl
      | inl ten ↦
          elim (eq-zero-or-pos (100 - n)) [
            | inr low ↦
                let a : n / 100 ≡ 0 = omega arith in let b : n / 10 % 10 ≡ n / 10 = omega arith in
                rw (a, second_is (n / 10) (omega arith), b, two_digits n (omega arith) (omega arith)) refl
            | inl hundred ↦ rw (first_is (n / 100) (omega arith), second_is (n / 10) (omega arith), three_digits n (omega arith) high) refl
          ]
    ]

-- ---- the table

-- a table has these texts below n
unfoldable pub agree_below : List ℕ → ℕ → Bool
agree_below table zero = true
agree_below table (suc n) = bytes_eq (take 4 (drop (4 * n) table)) (digits_of n) && agree_below table n

both_of : (x y : Bool) → (x && y) ≡ true → (x ≡ true) × (y ≡ true)
both_of true true h = (refl, refl)
both_of true false h = cc
both_of false y h = cc

agree_at : (table : List ℕ) (n : ℕ) → agree_below table n ≡ true → (k : ℕ) → k < n → take 4 (drop (4 * k) table) ≡ digits_of k
unfolding agree_below
agree_at table zero h k lt = absurd (omega arith)
agree_at table (suc n) h k lt =
    let both = both_of (bytes_eq (take 4 (drop (4 * n) table)) (digits_of n)) (agree_below table n) h in
    elim (cases_eq k n) [
      | inl same ↦ rw same ((bytes_eq-Decides (take 4 (drop (4 * n) table)) (digits_of n)).0 both.0)
      | inr other ↦ agree_at table n both.1 k (omega arith)
    ]

pub part_is : (table : List ℕ) (byte place : ℕ) → place ≡ byte → byte < 256 → agree_below table 256 ≡ true
    → between (4 * place) (4 * place + 4) table ≡ dotted byte
part_is table byte place is lt h =
    let four : 4 * byte + 4 - 4 * byte ≡ 4 = omega arith in
    rw is (ap (λ n. take n (drop (4 * byte) table)) four ∙ agree_at table 256 h byte lt ∙ dotted_is byte lt)

-- ---- a byte in a buffer

digit_count : (n : ℕ) → n < 256 → length (decimal n) ≡ 1 + bool_byte (leb 10 n) + bool_byte (leb 100 n)
digit_count n high =
    elim (eq-zero-or-pos (10 - n)) [
      | inr low ↦ rw (decimal_digit n (omega arith), lt-leb 10 n (omega arith), lt-leb 100 n (omega arith)) refl
      | inl ten ↦
          elim (eq-zero-or-pos (100 - n)) [
            | inr low ↦ rw (two_digits n (omega arith) (omega arith), le-leb 10 n (omega arith), lt-leb 100 n (omega arith)) refl
            | inl hundred ↦ rw (three_digits n (omega arith) high, le-leb 10 n (omega arith), le-leb 100 n (omega arith)) refl
          ]
    ]

-- the part of a buffer before `end`, with a byte at its end
module _ (n : ℕ) (high : n < 256) (end : ℕ) (old : List ℕ) (room : 4 ≤ end) (within : end ≤ length old) where
  dots : List ℕ
  dots = replicate (4 - length (decimal n)) 46

  short : length (decimal n) ≤ 3
  short = length-decimal-le 3 n (omega arith) (omega arith) (omega arith)

  whole : length (dotted n) ≡ 4
  whole =
      length-append (replicate (4 - length (decimal n)) 46) (decimal n) ∙ ap (λ k. k + length (decimal n)) (length-replicate (4 - length (decimal n)) 46)
      ∙ omega (arith, short)

  pub fits : length (mid_of (end - 4) (end - (end - 4)) old) ≡ length (dotted n)
  fits = length-take-le (end - (end - 4)) (drop (end - 4) old) (omega (arith, length-drop (end - 4) old)) ∙ omega (arith, whole)

  put_is : (part : List ℕ) → part ≡ dotted n
      → put_mid (end - 4) (end - (end - 4)) old part ≡ (take (end - 4) old ++ dots) ++ (decimal n ++ drop end old)
  unfolding dots
  put_is part is =
      let four : 4 ≡ end - (end - 4) = omega arith in
      let back : end - 4 + 4 ≡ end = omega arith in
      put_mid-paste (end - 4) (end - (end - 4)) old part (dotted n) 4 is four (sym whole)
      ∙ ap (λ l. take (end - 4) old ++ l ++ drop (end - 4 + 4) old) (take_all 4 (dotted n) (omega (arith, whole)))
      ∙ ap (λ k. take (end - 4) old ++ (dots ++ decimal n) ++ drop k old) back
      ∙ ap (λ l. l ++ drop end old) (sym (append_assoc (take (end - 4) old) dots (decimal n)))
      ∙ append_assoc (take (end - 4) old ++ dots) (decimal n) (drop end old)

  before_long : length (take (end - 4) old ++ dots) ≡ end - length (decimal n)
  unfolding dots
  before_long =
      length-append (take (end - 4) old) dots
      ∙ ap (λ k. k + length dots) (length-take-le (end - 4) old (omega arith))
      ∙ ap (λ k. end - 4 + k) (length-replicate (4 - length (decimal n)) 46) ∙ omega (arith, short)

  pub byte_put : (mark a b start : ℕ) (part : List ℕ) → a ≡ bool_byte (leb 10 n) → b ≡ bool_byte (leb 100 n) → part ≡ dotted n
      → start ≡ end - 2 - a - b
      → drop start (set (put_mid (end - 4) (end - (end - 4)) old part) start mark) ≡ mark ∷ (decimal n ++ drop end old)
  byte_put mark a b start part ten hundred is at =
      let left = take (end - 4) old ++ dots in
      let right = decimal n ++ drop end old in
      let count : length (decimal n) ≡ 1 + a + b = rw (ten, hundred) (digit_count n high) in
      let long : length left ≡ start + 1 = before_long ∙ omega (arith, count, short) in
      ap (λ l. drop start (set l start mark)) (put_is part is)
      ∙ drop-set (left ++ right) start mark (omega (arith, long, length-append left right))
      ∙ ap (λ l. mark ∷ l) (drop_at left right (start + 1) long)

-- what stands after the first character
pub after_first : (start x : ℕ) (rest buffer : List ℕ) → drop start buffer ≡ x ∷ rest → drop (start + 1) buffer ≡ rest
after_first start x rest buffer is = sym (drop-drop 1 start buffer) ∙ ap (drop 1) is
