-- Texts of things, one after another.
use Rattle.std.proofs.Common.{◌≡◌, ℕ, ◌+◌, ◌<◌, ◌≤◌, List, ◌++◌, length, take, get_or, Result, Ok, Err, sym, ap, ◌∙◌}
use Rattle.std.specs.Prelude.{flat_map, OnOk}
use Rattle.std.proofs.lemmas.List.{append_assoc, flat_map_more, take_all, take_more}

module _ {X C : Type 0} (text : X → List C) where
  -- that of one more thing after those so far
  pub one_more_at : (start : List C) (xs : List X) (i : ℕ) (d : X) (so_far next : List C) → i < length xs
      → so_far ≡ start ++ flat_map text (take i xs) → next ≡ so_far ++ text (get_or xs i d) → next ≡ start ++ flat_map text (take (i + 1) xs)
  one_more_at start xs i d so_far next lt are added =
      added ∙ ap (λ l. l ++ text (get_or xs i d)) are ∙ flat_map_more text start (take i xs) (get_or xs i d)
      ∙ ap (λ those. start ++ flat_map text those) (sym (take_more xs i d lt))

  -- those of all things
  pub all_added : (start : List C) (xs : List X) (i : ℕ) (now : List C) → length xs ≤ i
      → now ≡ start ++ flat_map text (take i xs) → now ≡ start ++ flat_map text xs
  all_added start xs i now done are = are ∙ ap (λ l. start ++ flat_map text l) (take_all i xs done)

-- two parts, and what a call adds if it goes well
pub in_three : {T E : Type 0} (result : Result T E) (old a b end one two new : List ℕ) → one ≡ old ++ a → two ≡ one ++ b → OnOk result (new ≡ two ++ end)
    → OnOk result (new ≡ old ++ ((a ++ b) ++ end))
in_three (Ok t) old a b end one two new first second last =
    last ∙ ap (λ l. l ++ end) (second ∙ ap (λ l. l ++ b) first) ∙ ap (λ l. l ++ end) (append_assoc old a b) ∙ append_assoc old (a ++ b) end
in_three (Err e) old a b end one two new first second last = last
