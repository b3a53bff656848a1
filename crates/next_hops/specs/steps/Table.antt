-- The hops of vertices while they are handed on.
use Rattle.std.specs.Prelude.{◌≡◌, ℕ, ◌<◌, List, [], map, All, length}
use Rattle.lsa_codec.specs.declared.address.Addr.{Addr}
use Rattle.next_hops.specs.declared.hop.Hop.{Hop}
use Rattle.next_hops.specs.declared.passage.Passage.{Passage}
use Rattle.next_hops.specs.declared.passage.Passage.TheVariants.{Empty, Unchanged, Extended}
use Rattle.next_hops.specs.declared.table.HopTable.{HopTable}
use Rattle.next_hops.specs.Hop.{extended}
use Rattle.next_hops.specs.steps.Handed.{AreWhole, handed_hops}
use Rattle.next_hops.specs.steps.Passing.{Grows}
use Rattle.next_hops.specs.steps.Shared.{Keeps, list_in}

module _ {A : Type 0} where
  -- the hops of each vertex, as far as they were handed on
  abbrev pub hops_so_far : HopTable A → List (List Hop)
  hops_so_far t = map (λ v. handed_hops t.lists.keys v) t.vertices.items

  abbrev pub IsWhole : HopTable A → Type 0
  IsWhole t = AreWhole t.lists.keys t.joins.entries t.vertices.items

  -- the list with a number
  abbrev pub kept_list : HopTable A → ℕ → List Hop
  kept_list t n = list_in t.lists.keys n

  -- whether there is a list with this number
  abbrev pub IsKept : HopTable A → ℕ → Type 0
  IsKept t n = n < length t.lists.keys

  -- new is old with the hops of which P holds, and each list still has its number
  pub record Hands (P : ℕ → Hop → Type 0) (old new : HopTable A) : Type 0 where
    pub grows : Grows P (hops_so_far old) (hops_so_far new)
    pub keeps : Keeps old.lists.keys new.lists.keys
    pub whole : IsWhole new

  -- new has the hops of old, and each list still has its number
  pub record Stays (old new : HopTable A) : Type 0 where
    pub hops : hops_so_far new ≡ hops_so_far old
    pub keeps : Keeps old.lists.keys new.lists.keys
    pub whole : IsWhole new

-- a hop stays as it is wherever the path goes on
abbrev pub StaysAsItIs : Hop → Type 0
StaysAsItIs h = (a : Addr) → extended h a ≡ h

abbrev pub StayAsTheyAre : List Hop → Type 0
StayAsTheyAre hops = All StaysAsItIs hops

-- what a passage means for hops that go on over any edge
abbrev pub GoOn : Passage → List Hop → Type 0
GoOn Empty hops = hops ≡ []
GoOn Unchanged hops = StayAsTheyAre hops
GoOn Extended hops = Unit {0}
