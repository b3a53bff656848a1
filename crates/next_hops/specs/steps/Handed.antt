-- The lists of hops that vertices received.
use Rattle.std.specs.Prelude.{◌≡◌, ℕ, List, [], ◌∷◌, All, Contains, ◌⊎◌}
use Rattle.std.specs.declared.vec.Vec.{Vec}
use Rattle.area_graph.specs.Rising.{rising}
use Rattle.next_hops.specs.declared.hop.Hop.{Hop}
use Rattle.next_hops.specs.declared.handed.Handed.{Handed}
use Rattle.next_hops.specs.declared.handed.Handed.TheVariants.{Nothing, One, Several}
use Rattle.next_hops.specs.Hop.{hop_cmp}
use Rattle.next_hops.specs.steps.Shared.{AreJoins, AreSorted, AreWithin, hops_in}

module _ {A : Type 0} where
  -- the numbers of the lists that a vertex received
  abbrev pub numbers_in : Handed A → List ℕ
  numbers_in Nothing = []
  numbers_in (One n) = n ∷ []
  numbers_in (Several ns) = ns.items

  -- the hops of all these lists
  abbrev pub handed_hops : List (Vec Hop A) → Handed A → List Hop
  handed_hops lists handed = rising hop_cmp (hops_in lists (numbers_in handed))

  -- each number that a vertex received is that of a list, the lists are sorted, and each join has the hops of its
  -- lists
  pub record AreWhole (lists : List (Vec Hop A)) (joins : List (Vec ℕ A × ℕ)) (vertices : List (Handed A)) : Type 0 where
    pub sorted : AreSorted lists
    pub joined : AreJoins lists joins
    pub within : All (λ v. AreWithin lists (numbers_in v)) vertices

-- new has the numbers of old, and n
pub record Adds (n : ℕ) (old new : List ℕ) : Type 0 where
  pub kept : (m : ℕ) → Contains old m → Contains new m
  pub only : (m : ℕ) → Contains new m → Contains old m ⊎ (m ≡ n)
  pub has : Contains new n
