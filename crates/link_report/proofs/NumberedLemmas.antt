-- Loops that go over the items of a list with their numbers.
use Rattle.std.proofs.Common.{◌≡◌, ℕ, ◌+◌, ◌<◌, ◌≤◌, List, [], ◌∷◌, ◌++◌, length, get_or, drop, append_assoc, add-one, sym, ap, ◌∙◌}
use Rattle.std.specs.List.{enumerate_from}
use Rattle.std.proofs.lemmas.List.{append-nil}
use Rattle.std.proofs.Math.ListN.{drop_of_length-le}
use Rattle.std.proofs.Math.Seq.{drop-cons}

module _ {X C : Type 0} where
  -- g takes h of each item in turn, from the front
  pub record Takes (g : List (ℕ × X) → List C) (h : ℕ × X → List C) : Type 0 where
    pub none : g [] ≡ []
    pub front : (one : ℕ × X) (rest : List (ℕ × X)) → g (one ∷ rest) ≡ h one ++ g rest

  module _ {g : List (ℕ × X) → List C} {h : ℕ × X → List C} (takes : Takes g h) (xs : List X) where
    -- the item at place i, which has number k
    pub numbered_more : (i k : ℕ) (d : X) (before next all : List C) → i < length xs → before ++ g (enumerate_from k (drop i xs)) ≡ all
        → next ≡ before ++ h (k, get_or xs i d) → next ++ g (enumerate_from (k + 1) (drop (i + 1) xs)) ≡ all
    numbered_more i k d before next all lt was is =
        let x = get_or xs i d in
        let rest = enumerate_from (k + 1) (drop (i + 1) xs) in
        ap (λ l. l ++ g rest) is ∙ append_assoc before (h (k, x)) (g rest) ∙ ap (λ l. before ++ l) (sym (takes.front (k, x) rest))
        ∙ ap (λ l. before ++ g (enumerate_from k l)) (sym (next_at i d lt)) ∙ was
      where
        next_at : (i : ℕ) (d : X) → i < length xs → drop i xs ≡ get_or xs i d ∷ drop (i + 1) xs
        next_at i d lt = rw add-one (drop-cons xs i d lt)

    pub numbered_all : (i k : ℕ) (now all : List C) → length xs ≤ i → now ++ g (enumerate_from k (drop i xs)) ≡ all → now ≡ all
    numbered_all i k now all past was =
        sym (append-nil now) ∙ ap (λ l. now ++ l) (sym takes.none) ∙ ap (λ l. now ++ g (enumerate_from k l)) (sym (drop_of_length-le xs past)) ∙ was
