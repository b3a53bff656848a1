-- One more pair after groups.
use Rattle.std.proofs.Common.{◌≡◌, ◌<◌, ◌+◌, ℕ, Bool, true, false, cond, List, [], ◌∷◌, ◌++◌, map, take, length, get_or, append_assoc, refl, sym, ap, ◌∙◌}
use Rattle.std.specs.Prelude.{filter, fold}
use Rattle.std.proofs.lemmas.List.{append-nil, map_push, take_more}
use Rattle.std.proofs.lemmas.List.Sums.{fold_push}
use Rattle.audit_areas.specs.Groups.{added, alone, grouped, last_and}

module _ {K V : Type 0} (same : K → K → Bool) where
  added-last : (gs : List (K × List V)) (g : K × List V) (pair : K × V) → added same (gs ++ g ∷ []) pair ≡ gs ++ last_and same g pair
  added-last [] g pair = refl
  added-last (x ∷ []) g pair = refl
  added-last (x ∷ y ∷ gs) g pair = ap (λ (l : List (K × List V)). x ∷ l) (added-last (y ∷ gs) g pair)

  -- one more pair of a list
  pub grouped_more : (pairs : List (K × V)) (i : ℕ) (pair : K × V) → i < length pairs → pair ≡ get_or pairs i pair
      → added same (grouped same (take i pairs)) pair ≡ grouped same (take (i + 1) pairs)
  grouped_more pairs i pair lt item =
      sym
      (ap (λ (ps : List (K × V)). fold (added same) [] ps)
      (take_more pairs i pair lt ∙ ap (λ (p : K × V). take i pairs ++ p ∷ []) (sym item))
      ∙ fold_push (added same) [] (take i pairs) pair)

  module _ {X : Type 0} (view : X → K × List V) (pair : K × V) where
    -- the last group leaves, and stands with the pair
    pub added_after : (old left : List X) (last : X) → old ≡ left ++ last ∷ []
        → map view left ++ last_and same (view last) pair ≡ added same (map view old) pair
    added_after old left last is =
        sym
        (ap (λ (gs : List X). added same (map view gs) pair) is
        ∙ ap (λ (l : List (K × List V)). added same l pair) (map_push view left last)
        ∙ added-last (map view left) (view last) pair)

    -- there is no group
    pub added_none : (old left : List X) → old ≡ left ++ [] → left ≡ [] → map view left ++ alone pair ≡ added same (map view old) pair
    added_none old left is none =
        ap (λ (gs : List X). map view gs ++ alone pair) none
        ∙ sym (ap (λ (gs : List X). added same (map view gs) pair) (is ∙ append-nil left ∙ none))

    -- the pair has the key of the group
    pub pushed_same : (old new : List X) (x : X) (g : K × List V) → new ≡ old ++ x ∷ [] → view x ≡ (g.0, g.1 ++ pair.1 ∷ [])
        → same g.0 pair.0 ≡ true → map view new ≡ map view old ++ last_and same g pair
    pushed_same old new x g is viewed held =
        ap (map view) is ∙ map_push view old x ∙ ap (λ (y : K × List V). map view old ++ y ∷ []) viewed
        ∙ ap (λ (b : Bool). map view old ++ cond b ((g.0, g.1 ++ pair.1 ∷ []) ∷ []) (g ∷ alone pair)) (sym held)

    -- it has another
    pub pushed_other : (old mid new : List X) (x : X) (g : K × List V) → mid ≡ old ++ x ∷ [] → view x ≡ g → map view new ≡ map view mid ++ alone pair
        → same g.0 pair.0 ≡ false → map view new ≡ map view old ++ last_and same g pair
    pushed_other old mid new x g is viewed next other =
        next
        ∙ ap (λ (l : List (K × List V)). l ++ alone pair)
        (ap (map view) is ∙ map_push view old x ∙ ap (λ (y : K × List V). map view old ++ y ∷ []) viewed)
        ∙ append_assoc (map view old) (g ∷ []) (alone pair)
        ∙ ap (λ (b : Bool). map view old ++ cond b ((g.0, g.1 ++ pair.1 ∷ []) ∷ []) (g ∷ alone pair)) (sym other)

-- groups that pass a test, as they are seen
pub map-filter : {X Y : Type 0} (f : X → Y) (p : Y → Bool) (xs : List X) → map f (filter (λ x. p (f x)) xs) ≡ filter p (map f xs)
map-filter f p [] = refl
map-filter {X} {Y} f p (x ∷ xs) = by (p (f x)) (map-filter f p xs)
  where
    by : (b : Bool) → map f (filter (λ x. p (f x)) xs) ≡ filter p (map f xs)
        → map f (cond b (x ∷ filter (λ x. p (f x)) xs) (filter (λ x. p (f x)) xs)) ≡ cond b (f x ∷ filter p (map f xs)) (filter p (map f xs))
    by true rest = ap (λ (l : List Y). f x ∷ l) rest
    by false rest = rest
