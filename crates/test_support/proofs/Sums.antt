-- The two sums of the checksum, a byte at a time.
use Rattle.std.proofs.Common.{◌≡◌, ℕ, ◌+◌, ◌*◌, ◌%◌, ◌<◌, List, [], ◌∷◌, ◌++◌, length, take, sum, ap, arith, get_or}
use Rattle.std.proofs.lemmas.List.Sums.{sum_by-cons, sum_by_push}
use Rattle.std.proofs.lemmas.List.{length_push, take_more}
use Rattle.test_support.specs.Fletcher.{weighted_sum, first_sum, second_sum}

abbrev byte : ℕ → ℕ
byte x = x

weighted_sum_push : (xs : List ℕ) (x : ℕ) → weighted_sum (xs ++ x ∷ []) ≡ weighted_sum xs + sum (xs ++ x ∷ [])
weighted_sum_push [] x = omega arith
weighted_sum_push (y ∷ xs) x =
    omega (arith, weighted_sum_push xs x, sum_by-cons byte y (xs ++ x ∷ []), length_push xs x, ap (λ n. n * y) (length_push xs x))

pub first_sum_push : (xs : List ℕ) (x : ℕ) → first_sum (xs ++ x ∷ []) ≡ (first_sum xs + x) % 255
first_sum_push xs x = omega (arith, sum_by_push byte xs x)

pub second_sum_push : (xs : List ℕ) (x : ℕ) → second_sum (xs ++ x ∷ []) ≡ (second_sum xs + first_sum (xs ++ x ∷ [])) % 255
second_sum_push xs x = omega (arith, weighted_sum_push xs x)

-- one byte more
pub first_sum_more : (xs : List ℕ) (i : ℕ) → i < length xs → first_sum (take (i + 1) xs) ≡ (first_sum (take i xs) + get_or xs i 0) % 255
first_sum_more xs i lt = rw (take_more xs i 0 lt) (first_sum_push (take i xs) (get_or xs i 0))

pub second_sum_more : (xs : List ℕ) (i : ℕ) → i < length xs
    → second_sum (take (i + 1) xs) ≡ (second_sum (take i xs) + first_sum (take (i + 1) xs)) % 255
second_sum_more xs i lt = rw (take_more xs i 0 lt) (second_sum_push (take i xs) (get_or xs i 0))
