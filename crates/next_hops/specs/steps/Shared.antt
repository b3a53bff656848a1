-- Lists of hops that are kept once, and referred to by number.
use Rattle.std.specs.Prelude.{◌≡◌, ℕ, ◌<◌, ◌≤◌, List, [], All, Contains, map, flat_map, length, slice_index_or}
use Rattle.std.specs.declared.vec.Vec.{Vec}
use Rattle.area_graph.specs.Rising.{rising}
use Rattle.next_hops.specs.declared.hop.Hop.{Hop}
use Rattle.next_hops.specs.Hop.{IsSortedHops, hop_cmp}

module _ {A : Type 0} where
  -- the list with a number
  abbrev pub list_in : List (Vec Hop A) → ℕ → List Hop
  list_in lists n = slice_index_or (map (λ list. list.items) lists) n []

  -- the lists with these numbers
  abbrev pub lists_in : List (Vec Hop A) → List ℕ → List (List Hop)
  lists_in lists numbers = map (λ n. list_in lists n) numbers

  -- the hops of the lists with these numbers
  abbrev pub hops_in : List (Vec Hop A) → List ℕ → List Hop
  hops_in lists numbers = flat_map (λ n. list_in lists n) numbers

  -- each of these numbers is that of a list
  abbrev pub AreWithin : List (Vec Hop A) → List ℕ → Type 0
  AreWithin lists numbers = All (λ n. n < length lists) numbers

  abbrev pub AreSorted : List (Vec Hop A) → Type 0
  AreSorted lists = All (λ list. IsSortedHops list.items) lists

  -- each of the old lists still has its number, and each new list is sorted
  pub record Keeps (old new : List (Vec Hop A)) : Type 0 where
    pub same : (n : ℕ) → n < length old → list_in new n ≡ list_in old n
    pub no_less : length old ≤ length new
    pub sorted : AreSorted old → AreSorted new

  -- the list with this number has all hops of those with these numbers
  pub record IsJoin (lists : List (Vec Hop A)) (numbers : List ℕ) (n : ℕ) : Type 0 where
    pub parts : AreWithin lists numbers
    pub within : n < length lists
    pub hops : list_in lists n ≡ rising hop_cmp (hops_in lists numbers)

  abbrev pub AreJoins : List (Vec Hop A) → List (Vec ℕ A × ℕ) → Type 0
  AreJoins lists joins = All (λ e. IsJoin lists e.0.items e.1) joins

  -- the join of these numbers is there, and has the number n
  abbrev pub HasJoin : List (Vec ℕ A × ℕ) → List ℕ → ℕ → Type 0
  HasJoin joins numbers n = (key : Vec ℕ A) × (key.items ≡ numbers) × Contains joins (key, n)
