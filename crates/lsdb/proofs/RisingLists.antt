-- Lists in strictly rising order: where a binary search ends, and one more item there.
use Rattle.std.proofs.Common.{◌≡◌, ℕ, zero, suc, ◌+◌, ◌<◌, ◌≤◌, List, [], ◌∷◌, length, get_or, Result, Ok, Err, is_ok, true, refl, ap, ◌∙◌, arith}
use Rattle.std.specs.Prelude.{Contains, MatchResult}
use Rattle.std.specs.Cmp.{IsTotalOrder}
use Rattle.std.specs.List.{AllByRecursion, insert}
use Rattle.std.specs.List.Sorted.{IsBinarySearchResult, IsSearchInRange, IsSortedBy, IsStrictlySortedBy}
use Rattle.std.specs.Ordering.{is_lt, ordering_reverse}
use Rattle.std.specs.declared.cmp.Ordering.{Ordering}
use Rattle.std.specs.declared.cmp.Ordering.TheVariants.{Less}
use Rattle.std.proofs.lemmas.List.Sorted.{Contains-permutation, IsPermutation-insert, searchable_from_sorted}
use Rattle.std.proofs.lemmas.Map.Keys.{Less-from_sorted}
use Rattle.std.proofs.lemmas.Map.Lookups.{CmpEqualImpliesEq}
use Rattle.lsdb.specs.steps.SlotIndex.{NotesOne}

not_before : {X : Type 0} (order : X → X → Ordering) → IsTotalOrder order → (xs : List X) → IsStrictlySortedBy order xs
    → IsSortedBy (λ a b. is_lt (order a b)) xs
not_before order total xs rising k d low within =
    ap is_lt (total.antisymm (get_or xs (k + 1) d) (get_or xs k d)
    ∙ ap ordering_reverse (Less-from_sorted order xs k (k + 1) d rising (omega arith) within))

later : {X : Type 0} (order : X → X → Ordering) → IsTotalOrder order → (a b : X) (xs : List X) → order a b ≡ Less
    → AllByRecursion (λ y. order b y ≡ Less) xs → AllByRecursion (λ y. order a y ≡ Less) xs
later order total a b [] h all = tt
later order total a b (x ∷ xs) h all = (total.trans a b x h all.0, later order total a b xs h all.1)

all_insert : {X : Type 0} (P : X → Type 0) (xs : List X) (at : ℕ) (x : X) → P x → AllByRecursion P xs → AllByRecursion P (insert xs at x)
all_insert P xs zero x p all = (p, all)
all_insert P [] (suc at) x p all = (p, tt)
all_insert P (y ∷ xs) (suc at) x p all = (all.0, all_insert P xs at x p all.1)

-- it belongs here
record IsGap {X : Type 0} (order : X → X → Ordering) (xs : List X) (x : X) (at : ℕ) : Type 0 where
  within : at ≤ length xs
  below : (i : ℕ) (d : X) → i < at → order (get_or xs i d) x ≡ Less
  above : (i : ℕ) (d : X) → at ≤ i → i < length xs → order x (get_or xs i d) ≡ Less

gap_tail : {X : Type 0} (order : X → X → Ordering) (y : X) (xs : List X) (x : X) (at : ℕ) → IsGap order (y ∷ xs) x (suc at) → IsGap order xs x at
gap_tail order y xs x at gap = record {
  within = omega (arith, gap.within);
  below = λ i d lt. gap.below (suc i) d (omega arith);
  above = λ i d le lt. gap.above (suc i) d (omega arith) (omega arith);
}

rising_insert : {X : Type 0} (order : X → X → Ordering) → IsTotalOrder order → (xs : List X) (x : X) (at : ℕ) → IsStrictlySortedBy order xs
    → IsGap order xs x at → IsStrictlySortedBy order (insert xs at x)
unfolding IsStrictlySortedBy
rising_insert order total [] x zero rising gap = (tt, tt)
rising_insert order total [] x (suc at) rising gap = absurd (omega (arith, gap.within))
rising_insert order total (y ∷ xs) x zero rising gap =
    let less : order x y ≡ Less = gap.above 0 y (omega arith) (omega arith) in
    ((less, later order total x y xs less rising.0), rising)
rising_insert order total (y ∷ xs) x (suc at) rising gap = (
  all_insert (λ z. order y z ≡ Less) xs at x (gap.below 0 y (omega arith)) rising.0,
  rising_insert order total xs x at rising.1 (gap_tail order y xs x at gap),
)

in_insert : {X : Type 0} (xs : List X) (at : ℕ) (x y : X) → Contains (x ∷ xs) y → Contains (insert xs at x) y
in_insert xs at x y has = Contains-permutation (x ∷ xs) (insert xs at x) y (IsPermutation-insert xs at x) has

-- a binary search that found something found the item
pub found_by_search : {X : Type 0} (order : X → X → Ordering) → CmpEqualImpliesEq order → (xs : List X) (x : X) (r : Result ℕ ℕ)
    → IsSearchInRange r (length xs) → IsBinarySearchResult (λ y. order y x) xs r → is_ok r ≡ true → Contains xs x
found_by_search order exact xs x (Ok at) within equal is = (at, within, exact (get_or xs at x) x (equal x))
found_by_search order exact xs x (Err at) within parted is = absurd cc

-- a binary search ends at the item, or where it belongs
pub searched : {X : Type 0} (order : X → X → Ordering) → IsTotalOrder order → CmpEqualImpliesEq order → (xs : List X) (x : X) (r : Result ℕ ℕ)
    → IsStrictlySortedBy order xs → IsSearchInRange r (length xs) → IsBinarySearchResult (λ y. order y x) xs r
    → MatchResult r (λ at. NotesOne order xs xs x) (λ at. NotesOne order xs (insert xs at x) x)
searched order total exact xs x (Ok at) rising within equal = record {
  rising = rising;
  noted = (at, within, exact (get_or xs at x) x (equal x));
  kept = λ y has. has;
}
searched order total exact xs x (Err at) rising within parted =
    let parts = parted (searchable_from_sorted total (λ e. e) xs x (not_before order total xs rising)) in
    record {
      rising = rising_insert order total xs x at rising (record {
        within = within;
        below = λ i d lt. parts.0 i d (omega arith) lt;
        above = λ i d le lt. total.antisymm x (get_or xs i d) ∙ ap ordering_reverse (parts.1 i d le lt);
      });
      noted = in_insert xs at x x (0, omega arith, refl);
      kept = λ y has. in_insert xs at x y (suc has.0, omega (arith, has.1), has.2);
    }
