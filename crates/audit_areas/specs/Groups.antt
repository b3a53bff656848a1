-- Pairs in groups of one key.
use Rattle.std.specs.Prelude.{Bool, nat_lt, if◌then◌else◌, List, [], ◌∷◌, ◌++◌, length, filter, fold}

-- the group of one pair
abbrev pub alone : {K V : Type 0} → K × V → List (K × List V)
alone pair = (pair.0, pair.1 ∷ []) ∷ []

module _ {K V : Type 0} (same : K → K → Bool) where
  -- a group and a pair after it: together where they have one key
  abbrev pub last_and : K × List V → K × V → List (K × List V)
  last_and g pair = if same g.0 pair.0 then (g.0, g.1 ++ pair.1 ∷ []) ∷ [] else g ∷ alone pair

  -- groups with one more pair after them
  abbrev pub added : List (K × List V) → K × V → List (K × List V)
  added [] pair = alone pair
  added (g ∷ []) pair = last_and g pair
  added (g ∷ h ∷ gs) pair = g ∷ added (h ∷ gs) pair

  -- pairs in a row that have one key, together
  abbrev pub grouped : List (K × V) → List (K × List V)
  grouped pairs = fold added [] pairs

-- the groups of several values
abbrev pub has_several : {K V : Type 0} → K × List V → Bool
has_several group = nat_lt 1 (length group.1)

abbrev pub several : {K V : Type 0} → (K → K → Bool) → List (K × V) → List (K × List V)
several same pairs = filter has_several (grouped same pairs)
