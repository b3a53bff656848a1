-- An index of the slots of a section: what the LSA at each slot is found by, with the index of the slot, in rising order.
use Rattle.std.specs.Prelude.{◌≡◌, ◌^◌, ◌≤◌, ◌&&◌, ℕ, suc, Bool, true, List, [], ◌∷◌, ◌++◌, length, vec_capacity, Option, None, Some, option_map, All, Contains}
use Rattle.std.specs.List.{cons_option}
use Rattle.std.specs.List.Sorted.{IsStrictlySortedBy}
use Rattle.std.specs.Ordering.{is_le, nat_cmp, ordering_then}
use Rattle.std.specs.declared.cmp.Ordering.{Ordering}
use Rattle.lsdb.specs.declared.slot_index.SlotIndex.{SlotIndex}
use Rattle.lsdb.specs.declared.slot_index.SlotOf.{SlotOf}
use Rattle.lsdb.specs.Slots.{Slot, item_at}

-- an index of a slot has 32 bits
abbrev pub most_slots : ℕ
most_slots = 2 ^ 32

-- by key, and then by index
abbrev pub slot_cmp : {K : Type 0} → (K → K → Ordering) → SlotOf K → SlotOf K → Ordering
slot_cmp order a b = ordering_then (order a.key b.key) (nat_cmp a.index b.index)

-- each is less than those after it
abbrev pub AreRising : {K : Type 0} → (K → K → Ordering) → List (SlotOf K) → Type 0
AreRising order noted = IsStrictlySortedBy (slot_cmp order) noted

-- a key is from one to another, both included
abbrev pub is_within : {K : Type 0} → (K → K → Ordering) → K → K → K → Bool
is_within order low high key = is_le (order low key) && is_le (order key high)

abbrev pub slot_of : {K : Type 0} → ℕ → K → SlotOf K
slot_of index key = record { key = key; index = index }

-- the slot with that index, of what the LSA there is found by, if one stands there that is
abbrev pub noted_at : {K : Type 0} → (List ℕ → Option K) → ℕ → Slot → Option (SlotOf K)
noted_at found_by index None = None
noted_at found_by index (Some lsa) = option_map (slot_of index) (found_by lsa)

-- those of slots in their order, of which the first has index n
abbrev pub noted_from : {K : Type 0} → (List ℕ → Option K) → ℕ → List Slot → List (SlotOf K)
noted_from found_by n [] = []
noted_from found_by n (p ∷ ps) = cons_option (noted_at found_by n p) (noted_from found_by (suc n) ps)

-- each slot is noted, in rising order, or among the latest, in rising order too, and there is room to note each
pub record AreNoted {K : Type 0} (order : K → K → Ordering) (found_by : List ℕ → Option K) (slots : List Slot) (noted latest : List (SlotOf K)) (room : ℕ)
    : Type 0 where
  pub rising : AreRising order noted
  pub latest_rising : AreRising order latest
  pub whole : (i : ℕ) (slot : Slot) (name : SlotOf K) → item_at slots i ≡ Some slot → noted_at found_by i slot ≡ Some name → Contains (latest ++ noted) name
  pub fits : length slots ≤ room
  pub narrow : length slots ≤ most_slots

-- an index of these slots
abbrev pub IsIndex : {K A : Type 0} → (K → K → Ordering) → (List ℕ → Option K) → List Slot → SlotIndex K A → Type 0
IsIndex order found_by slots index = AreNoted order found_by slots index.noted.items index.latest.items (vec_capacity index.noted)

-- one more is noted, and all that were before
pub record NotesOne {X : Type 0} (order : X → X → Ordering) (old new : List X) (name : X) : Type 0 where
  pub rising : IsStrictlySortedBy order new
  pub noted : Contains new name
  pub kept : (other : X) → Contains old other → Contains new other

-- of noted slots those with a key from one to another
pub record IsPart {K : Type 0} (order : K → K → Ordering) (noted : List (SlotOf K)) (low high : K) (part : List (SlotOf K)) : Type 0 where
  pub rising : AreRising order part
  pub within : All (λ name. is_within order low high name.key ≡ true) part
  pub whole : (name : SlotOf K) → Contains noted name → is_within order low high name.key ≡ true → Contains part name
