-- The bytes of members, joined one after another.
use Rattle.std.proofs.Common.{◌≡◌, ℕ, ◌+◌, ◌<◌, ◌≤◌, List, ◌∷◌, ◌++◌, length, get_or, drop, add-one, Option, Some, None, Bor, refl, sym, ap, ◌∙◌, append_assoc}
use Rattle.std.proofs.lemmas.List.{append-nil, drop_all}
use Rattle.std.proofs.Math.Seq.{drop-cons}
use Rattle.std.specs.Prelude.{option_map}
use Rattle.json.specs.Json.{Json, Members, no_members, member}
use Rattle.json.specs.Value.{value_view, members_view}
use Rattle.json.specs.declared.value.Value.{Value}
use Rattle.frr_text.specs.Rules.{◌>>=◌}
use Rattle.frr_json.specs.Bodies.{bytes_of_each}

-- the first of what is left
pub cut : {X : Type 0} (xs : List X) (i : ℕ) (x : X) → i < length xs → drop i xs ≡ get_or xs i x ∷ drop (i + 1) xs
cut {X} xs i x lt = drop-cons xs i x lt ∙ ap (λ (n : ℕ). get_or xs i x ∷ drop n xs) (sym (add-one i))

joined : (before bytes : List ℕ) (found : Option (List ℕ))
    → option_map (λ others. before ++ others) (found >>= (λ others. Some (bytes ++ others)))
    ≡ option_map (λ others. (before ++ bytes) ++ others) found
joined before bytes None = refl
joined before bytes (Some others) = ap Some (sym (append_assoc before bytes others))

module _ (parsed : Json → Option (List ℕ)) where
  step : (name : List ℕ) (json : Json) (rest : Members)
      → bytes_of_each parsed (member name json rest) ≡ (parsed json >>= (λ first. bytes_of_each parsed rest >>= (λ others. Some (first ++ others))))
  unfolding bytes_of_each
  step name json rest = refl

  ended : (before : List ℕ) → option_map (λ others. before ++ others) (bytes_of_each parsed no_members) ≡ Some before
  unfolding bytes_of_each
  ended before = ap Some (append-nil before)

module _ {A : Type 0} (parsed : Json → Option (List ℕ)) where
  -- these bytes, and those of the members after them
  abbrev pub with_each : List ℕ → List (Bor (List ℕ) × Value A) → Option (List ℕ)
  with_each before members = option_map (λ others. before ++ others) (bytes_of_each parsed (members_view members))

  at_first : (before : List ℕ) (xs : List (Bor (List ℕ) × Value A)) (i : ℕ) (x : Bor (List ℕ) × Value A) → i < length xs → x ≡ get_or xs i x
      → with_each before (drop i xs)
      ≡ option_map (λ others. before ++ others)
      (parsed (value_view x.1) >>= (λ bytes. bytes_of_each parsed (members_view (drop (i + 1) xs)) >>= (λ others. Some (bytes ++ others))))
  at_first before xs i x lt is =
      ap (λ (ms : List (Bor (List ℕ) × Value A)). with_each before ms)
      (cut xs i x lt ∙ ap (λ (y : Bor (List ℕ) × Value A). y ∷ drop (i + 1) xs) (sym is))
      ∙ ap (option_map (λ others. before ++ others)) (step parsed x.0.now (value_view x.1) (members_view (drop (i + 1) xs)))

  pub each_none : (before : List ℕ) (xs : List (Bor (List ℕ) × Value A)) (i : ℕ) (x : Bor (List ℕ) × Value A) → i < length xs
      → x ≡ get_or xs i x → parsed (value_view x.1) ≡ None → with_each before (drop i xs) ≡ None
  each_none before xs i x lt is h =
      at_first before xs i x lt is
      ∙ ap (λ y. option_map (λ others. before ++ others)
      (y >>= (λ bytes. bytes_of_each parsed (members_view (drop (i + 1) xs)) >>= (λ others. Some (bytes ++ others))))) h

  pub each_next : (before after bytes : List ℕ) (xs : List (Bor (List ℕ) × Value A)) (i : ℕ) (x : Bor (List ℕ) × Value A) → i < length xs
      → x ≡ get_or xs i x → parsed (value_view x.1) ≡ Some bytes → after ≡ before ++ bytes
      → with_each before (drop i xs) ≡ with_each after (drop (i + 1) xs)
  each_next before after bytes xs i x lt is h added =
      at_first before xs i x lt is
      ∙ ap (λ y. option_map (λ others. before ++ others)
      (y >>= (λ now. bytes_of_each parsed (members_view (drop (i + 1) xs)) >>= (λ others. Some (now ++ others))))) h
      ∙ joined before bytes (bytes_of_each parsed (members_view (drop (i + 1) xs)))
      ∙ ap (λ (all : List ℕ). with_each all (drop (i + 1) xs)) (sym added)

  pub each_end : (before : List ℕ) (xs : List (Bor (List ℕ) × Value A)) (i : ℕ) → length xs ≤ i → with_each before (drop i xs) ≡ Some before
  each_end before xs i le = ap (λ (ms : List (Bor (List ℕ) × Value A)). with_each before ms) (drop_all i xs le) ∙ ended parsed before
