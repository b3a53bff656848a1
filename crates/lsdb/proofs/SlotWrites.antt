-- What a write to one slot changes.
use Rattle.std.proofs.Common.{◌≡◌, ℕ, zero, suc, List, [], ◌∷◌, ◌++◌, Some, None, refl, sym, ap}
use Rattle.lsdb.specs.declared.slot.SlotId.{SlotId}
use Rattle.lsdb.specs.Lists.{SectionLsas}
use Rattle.lsdb.specs.Slots.{Slot, Slots, SectionSlots, update_at, item_at, put_slot, put, slot_in, slot_at, open_at, full, section_of, lists_of}

-- ---- one list

pub put_slot-twice : (v w : Slot) (ps : List Slot) (i : ℕ) → put_slot w (put_slot v ps i) i ≡ put_slot w ps i
put_slot-twice v w [] i = refl
put_slot-twice v w (p ∷ ps) zero = refl
put_slot-twice v w (p ∷ ps) (suc i) = ap (λ (qs : List Slot). p ∷ qs) (put_slot-twice v w ps i)

pub put_slot-same : (v : Slot) (ps : List Slot) (i : ℕ) → item_at ps i ≡ Some v → put_slot v ps i ≡ ps
put_slot-same v [] i h = refl
put_slot-same v (p ∷ ps) zero h = ap (λ (q : Slot). q ∷ ps) (let e : p ≡ v = cc in sym e)
put_slot-same v (p ∷ ps) (suc i) h = ap (λ (qs : List Slot). p ∷ qs) (put_slot-same v ps i h)

pub item_at-put_slot : (v w : Slot) (ps : List Slot) (i : ℕ) → item_at ps i ≡ Some w → item_at (put_slot v ps i) i ≡ Some v
item_at-put_slot v w [] i h = absurd cc
item_at-put_slot v w (p ∷ ps) zero h = refl
item_at-put_slot v w (p ∷ ps) (suc i) h = item_at-put_slot v w ps i h

-- ---- all sections

abbrev written : Slot → ℕ → SectionSlots → SectionSlots
written v i s = record { area = s.area; slots = put_slot v s.slots i }

twice_at : (v w : Slot) (d : Slots) (section i : ℕ)
    → update_at (written w i) (update_at (written v i) d section) section ≡ update_at (written w i) d section
twice_at v w [] section i = refl
twice_at v w (s ∷ ss) zero i = ap (λ (ps : List Slot). record { area = s.area; slots = ps } ∷ ss) (put_slot-twice v w s.slots i)
twice_at v w (s ∷ ss) (suc section) i = ap (λ (ts : Slots). s ∷ ts) (twice_at v w ss section i)

same_at : (v : Slot) (d : Slots) (section i : ℕ) → slot_in (item_at d section) i ≡ Some v → update_at (written v i) d section ≡ d
same_at v [] section i h = refl
same_at v (s ∷ ss) zero i h = ap (λ (ps : List Slot). record { area = s.area; slots = ps } ∷ ss) (put_slot-same v s.slots i h)
same_at v (s ∷ ss) (suc section) i h = ap (λ (ts : Slots). s ∷ ts) (same_at v ss section i h)

read_at : (v w : Slot) (d : Slots) (section i : ℕ) → slot_in (item_at d section) i ≡ Some w
    → slot_in (item_at (update_at (written v i) d section) section) i ≡ Some v
read_at v w [] section i h = absurd cc
read_at v w (s ∷ ss) zero i h = item_at-put_slot v w s.slots i h
read_at v w (s ∷ ss) (suc section) i h = read_at v w ss section i h

-- a second write to a slot covers the first
pub put-put : (d : Slots) (slot : SlotId) (v w : Slot) → put (put d slot v) slot w ≡ put d slot w
put-put d slot v w = twice_at v w d slot.section slot.index

-- a slot that is written back
pub put-slot_at : (d : Slots) (slot : SlotId) (v : Slot) → slot_at d slot ≡ Some v → put d slot v ≡ d
put-slot_at d slot v h = same_at v d slot.section slot.index h

-- what was written is there
pub slot_at-put : (d : Slots) (slot : SlotId) (v w : Slot) → slot_at d slot ≡ Some w → slot_at (put d slot v) slot ≡ Some v
slot_at-put d slot v w h = read_at v w d slot.section slot.index h

-- ---- a slot is opened

item_at-grown : (v w : Slot) (ps : List Slot) (i : ℕ) → item_at ps i ≡ Some w → item_at (ps ++ v ∷ []) i ≡ Some w
item_at-grown v w [] i h = absurd cc
item_at-grown v w (p ∷ ps) zero h = h
item_at-grown v w (p ∷ ps) (suc i) h = item_at-grown v w ps i h

put_slot-grown : (v u w : Slot) (ps : List Slot) (i : ℕ) → item_at ps i ≡ Some w
    → put_slot v (ps ++ u ∷ []) i ≡ put_slot v ps i ++ u ∷ []
put_slot-grown v u w [] i h = absurd cc
put_slot-grown v u w (p ∷ ps) zero h = refl
put_slot-grown v u w (p ∷ ps) (suc i) h = ap (λ (qs : List Slot). p ∷ qs) (put_slot-grown v u w ps i h)

abbrev opened : SectionSlots → SectionSlots
opened s = record { area = s.area; slots = s.slots ++ None ∷ [] }

grown_read : (w : Slot) (d : Slots) (section i opening : ℕ) → slot_in (item_at d section) i ≡ Some w
    → slot_in (item_at (update_at opened d opening) section) i ≡ Some w
grown_read w [] section i opening h = absurd cc
grown_read w (s ∷ ss) zero i zero h = item_at-grown None w s.slots i h
grown_read w (s ∷ ss) zero i (suc opening) h = h
grown_read w (s ∷ ss) (suc section) i zero h = h
grown_read w (s ∷ ss) (suc section) i (suc opening) h = grown_read w ss section i opening h

grown_put : (v w : Slot) (d : Slots) (section i opening : ℕ) → slot_in (item_at d section) i ≡ Some w
    → update_at (written v i) (update_at opened d opening) section ≡ update_at opened (update_at (written v i) d section) opening
grown_put v w [] section i opening h = refl
grown_put v w (s ∷ ss) zero i zero h = ap (λ (ps : List Slot). record { area = s.area; slots = ps } ∷ ss) (put_slot-grown v None w s.slots i h)
grown_put v w (s ∷ ss) zero i (suc opening) h = refl
grown_put v w (s ∷ ss) (suc section) i zero h = refl
grown_put v w (s ∷ ss) (suc section) i (suc opening) h = ap (λ (ts : Slots). s ∷ ts) (grown_put v w ss section i opening h)

full-grown : (ps : List Slot) → full (ps ++ None ∷ []) ≡ full ps
full-grown [] = refl
full-grown (None ∷ ps) = full-grown ps
full-grown (Some x ∷ ps) = ap (λ (xs : List (List ℕ)). x ∷ xs) (full-grown ps)

pub slot_at-open_at : (d : Slots) (section : ℕ) (slot : SlotId) (v : Slot) → slot_at d slot ≡ Some v
    → slot_at (open_at d section) slot ≡ Some v
slot_at-open_at d section slot v h = grown_read v d slot.section slot.index section h

pub put-open_at : (d : Slots) (section : ℕ) (slot : SlotId) (v w : Slot) → slot_at d slot ≡ Some w
    → put (open_at d section) slot v ≡ open_at (put d slot v) section
put-open_at d section slot v w h = grown_put v w d slot.section slot.index section h

-- an empty slot isn't seen
pub lists_of-open_at : (d : Slots) (section : ℕ) → lists_of (open_at d section) ≡ lists_of d
lists_of-open_at [] section = refl
lists_of-open_at (s ∷ ss) zero = ap (λ (xs : List (List ℕ)). record { area = s.area; lsas = xs } ∷ lists_of ss) (full-grown s.slots)
lists_of-open_at (s ∷ ss) (suc section) = ap (λ (ts : List SectionLsas). section_of s ∷ ts) (lists_of-open_at ss section)
