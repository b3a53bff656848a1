-- Loops that add to what a list has, one item after another.
use Rattle.std.proofs.Common.{◌≡◌, ℕ, ◌+◌, ◌<◌, ◌≤◌, List, [], ◌++◌, length, get_or, take, append_assoc, sym, ap, ◌∙◌}
use Rattle.std.proofs.lemmas.List.{append-nil, take_all, take_more}
use Rattle.area_routes.proofs.AddsLemmas.{Adds}

module _ {X C : Type 0} {g : List X → List C} {h : X → List C} (adds : Adds g h) (start : List C) (xs : List X) where
  pub pushed_none : start ≡ start ++ g (take 0 xs)
  pushed_none = sym (append-nil start) ∙ ap (λ l. start ++ l) (sym adds.none)

  -- the item at place i, read with a default
  pub pushed_at : (i : ℕ) (d : X) (before next : List C) → i < length xs → before ≡ start ++ g (take i xs)
      → next ≡ before ++ h (get_or xs i d) → next ≡ start ++ g (take (i + 1) xs)
  pushed_at i d before next lt was is =
      let x = get_or xs i d in
      is ∙ ap (λ l. l ++ h x) was ∙ append_assoc start (g (take i xs)) (h x)
      ∙ ap (λ l. start ++ l) (sym (adds.push (take i xs) x)) ∙ ap (λ l. start ++ g l) (sym (take_more xs i d lt))

  -- the item at place i
  pub pushed_more : (i : ℕ) (x : X) (before next : List C) → i < length xs → x ≡ get_or xs i x → before ≡ start ++ g (take i xs)
      → next ≡ before ++ h x → next ≡ start ++ g (take (i + 1) xs)
  pushed_more i x before next lt item was is = pushed_at i x before next lt was (is ∙ ap (λ y. before ++ h y) item)

  pub pushed_all : (i : ℕ) (now : List C) → length xs ≤ i → now ≡ start ++ g (take i xs) → now ≡ start ++ g xs
  pushed_all i now past was = was ∙ ap (λ l. start ++ g l) (take_all i xs past)

-- the same of loops that begin with nothing
module _ {X C : Type 0} {g : List X → List C} {h : X → List C} (adds : Adds g h) (xs : List X) where
  pub made_at : (i : ℕ) (d : X) (before next : List C) → i < length xs → before ≡ g (take i xs)
      → next ≡ before ++ h (get_or xs i d) → next ≡ g (take (i + 1) xs)
  made_at i d before next lt was is = pushed_at adds [] xs i d before next lt was is

  pub made_more : (i : ℕ) (x : X) (before next : List C) → i < length xs → x ≡ get_or xs i x → before ≡ g (take i xs)
      → next ≡ before ++ h x → next ≡ g (take (i + 1) xs)
  made_more i x before next lt item was is = pushed_more adds [] xs i x before next lt item was is

  pub made_all : (i : ℕ) (now : List C) → length xs ≤ i → now ≡ g (take i xs) → now ≡ g xs
  made_all i now past was = pushed_all adds [] xs i now past was
