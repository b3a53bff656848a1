-- Reading by one of several rules, and by one rule several times.
use Rattle.std.proofs.Common.{◌≡◌, ℕ, zero, suc, ◌+◌, ◌<◌, ◌≤◌, List, ◌∷◌, ◌++◌, length, get_or, drop, add-one, Option, Some, None, refl, sym, ap, ◌∙◌, append_assoc}
use Rattle.std.proofs.lemmas.List.{append-nil, drop_all}
use Rattle.std.proofs.Math.Seq.{drop-cons}
use Rattle.std.specs.List.{flat_map}
use Rattle.std.specs.Prelude.{option_map}
use Rattle.frr_text.specs.Words.{Word}
use Rattle.frr_text.specs.Rules.{◌>>=◌, Rule, or_else, first_of_all, times}

module _ {X Y : Type 0} (rule : X → Rule Y) where
  first_step : (x : X) (xs : List X) (text : List Word) → first_of_all rule (x ∷ xs) text ≡ or_else (rule x text) (first_of_all rule xs text)
  unfolding first_of_all
  first_step x xs text = refl

  -- the rule of this index comes first
  first_at : (xs : List X) (i : ℕ) (x : X) (text : List Word) → i < length xs
      → first_of_all rule (drop i xs) text ≡ or_else (rule (get_or xs i x) text) (first_of_all rule (drop (i + 1) xs) text)
  first_at xs i x text lt =
      ap (λ (ys : List X). first_of_all rule ys text) (drop-cons xs i x lt) ∙ first_step (get_or xs i x) (drop (suc i) xs) text
      ∙ ap (λ (n : ℕ). or_else (rule (get_or xs i x) text) (first_of_all rule (drop n xs) text)) (sym (add-one i))

  pub first_passed : (xs : List X) (i : ℕ) (x : X) (text : List Word) → i < length xs → rule (get_or xs i x) text ≡ None
      → first_of_all rule (drop i xs) text ≡ first_of_all rule (drop (i + 1) xs) text
  first_passed xs i x text lt h =
      first_at xs i x text lt ∙ ap (λ (y : Option (Y × List Word)). or_else y (first_of_all rule (drop (i + 1) xs) text)) h

  pub first_found : (xs : List X) (i : ℕ) (x : X) (text : List Word) (found : Y × List Word) → i < length xs
      → rule (get_or xs i x) text ≡ Some found → first_of_all rule (drop i xs) text ≡ Some found
  first_found xs i x text found lt h =
      first_at xs i x text lt ∙ ap (λ (y : Option (Y × List Word)). or_else y (first_of_all rule (drop (i + 1) xs) text)) h

  -- the first can be read, or it cannot, and it is one of the others
  pub front_first : (x : X) (xs : List X) (text : List Word) (found : Y × List Word) → rule x text ≡ Some found
      → first_of_all rule (x ∷ xs) text ≡ Some found
  front_first x xs text found h = first_step x xs text ∙ ap (λ (y : Option (Y × List Word)). or_else y (first_of_all rule xs text)) h

  pub others_first : (x : X) (xs : List X) (text : List Word) → rule x text ≡ None → first_of_all rule (x ∷ xs) text ≡ first_of_all rule xs text
  others_first x xs text h = first_step x xs text ∙ ap (λ (y : Option (Y × List Word)). or_else y (first_of_all rule xs text)) h

  pub first_missed : (xs : List X) (i : ℕ) (text : List Word) → length xs ≤ i → first_of_all rule (drop i xs) text ≡ None
  unfolding first_of_all
  first_missed xs i text le = ap (λ (ys : List X). first_of_all rule ys text) (drop_all i xs le)

module _ {X : Type 0} (rule : Rule X) (bytes_of : X → List ℕ) where
  -- n of them are read here, and stand after these bytes
  abbrev pub with_times : List ℕ → ℕ → List Word → Option (List ℕ)
  with_times bytes n text = option_map (λ xs. bytes ++ flat_map bytes_of xs) (times rule n text)

  times_step : (n : ℕ) (text : List Word)
      → times rule (suc n) text ≡ (rule text >>= (λ first. times rule n first.1 >>= (λ others. Some (first.0 ∷ others))))
  unfolding times
  times_step n text = refl

  pub times_none : (bytes : List ℕ) (n m : ℕ) (here : List Word) → n ≡ suc m → rule here ≡ None → with_times bytes n here ≡ None
  times_none bytes n m here e h =
      ap (λ (k : ℕ). with_times bytes k here) e ∙ ap (option_map (λ xs. bytes ++ flat_map bytes_of xs)) (times_step m here)
      ∙ ap (λ y. option_map (λ xs. bytes ++ flat_map bytes_of xs) (y >>= (λ first. times rule m first.1 >>= (λ others. Some (first.0 ∷ others))))) h

  joined : (before : List ℕ) (x : X) (found : Option (List X))
      → option_map (λ xs. before ++ flat_map bytes_of xs) (found >>= (λ others. Some (x ∷ others)))
      ≡ option_map (λ xs. (before ++ bytes_of x) ++ flat_map bytes_of xs) found
  joined before x None = refl
  joined before x (Some others) = ap Some (sym (append_assoc before (bytes_of x) (flat_map bytes_of others)))

  pub times_next : (before after : List ℕ) (n m : ℕ) (here beyond : List Word) (x : X) → n ≡ suc m → rule here ≡ Some (x, beyond)
      → after ≡ before ++ bytes_of x → with_times before n here ≡ with_times after m beyond
  times_next before after n m here beyond x e h added =
      ap (λ (k : ℕ). with_times before k here) e ∙ ap (option_map (λ xs. before ++ flat_map bytes_of xs)) (times_step m here)
      ∙ ap (λ y. option_map (λ xs. before ++ flat_map bytes_of xs) (y >>= (λ first. times rule m first.1 >>= (λ others. Some (first.0 ∷ others))))) h
      ∙ joined before x (times rule m beyond)
      ∙ ap (λ (bytes : List ℕ). with_times bytes m beyond) (sym added)

  pub times_end : (bytes : List ℕ) (n : ℕ) (here : List Word) → n ≡ zero → with_times bytes n here ≡ Some bytes
  unfolding times
  times_end bytes n here e = ap (λ (k : ℕ). with_times bytes k here) e ∙ ap Some (append-nil bytes)
