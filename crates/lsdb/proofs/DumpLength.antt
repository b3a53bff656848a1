-- The length of the dump, kept beside the sections.
use Rattle.std.proofs.Common.{◌≡◌, ℕ, ◌+◌, ◌-◌, ◌≤◌, List, Some, None, sym, ap, ◌∙◌, subst, arith}
use Rattle.lsdb.specs.declared.slot.SlotId.{SlotId}
use Rattle.lsdb.specs.declared.database.SectionOf.{SectionOf}
use Rattle.lsdb.specs.Lists.{IsDatabase, size}
use Rattle.lsdb.specs.Slots.{Slot, Slots, put, slot_at, lists_of}
use Rattle.lsdb.specs.steps.OneSlot.{slot_size}
use Rattle.lsdb.specs.steps.View.{slots_of, IsKept}
use Rattle.lsdb.proofs.Dominated.{size-put}

-- the same lists
pub kept_lists : {A : Type 0} → (ss ts : List (SectionOf A)) (kept : ℕ)
    → lists_of (slots_of ts) ≡ lists_of (slots_of ss) → IsKept ss kept → IsKept ts kept
kept_lists {A} ss ts kept same h = record { sound = subst IsDatabase (sym same) h.sound; byte_count = h.byte_count ∙ ap size (sym same) }

-- a slot takes no more bytes than the dump
pub slot_size_fits : (d : Slots) (slot : SlotId) (old : Slot) → slot_at d slot ≡ Some old → slot_size old ≤ size (lists_of d)
slot_size_fits d slot old at = omega (arith, size-put d slot old None at)

pub size_moved : (d : Slots) (slot : SlotId) (old new : Slot) (kept : ℕ) → slot_at d slot ≡ Some old
    → kept ≡ size (lists_of d) → kept - slot_size old + slot_size new ≡ size (lists_of (put d slot new))
size_moved d slot old new kept at is = omega (arith, size-put d slot old new at, slot_size_fits d slot old at, is)

-- one slot was exchanged
pub kept_put : {A : Type 0} → (ss ts : List (SectionOf A)) (slot : SlotId) (old new : Slot) (kept moved : ℕ)
    → slots_of ts ≡ put (slots_of ss) slot new → slot_at (slots_of ss) slot ≡ Some old
    → IsDatabase (lists_of (put (slots_of ss) slot new)) → moved ≡ kept - slot_size old + slot_size new
    → IsKept ss kept → IsKept ts moved
kept_put {A} ss ts slot old new kept moved same at sound is h =
    let lists : lists_of (slots_of ts) ≡ lists_of (put (slots_of ss) slot new) = ap (λ (d : Slots). lists_of d) same in
    record { sound = subst IsDatabase (sym lists) sound; byte_count = is ∙ size_moved (slots_of ss) slot old new kept at h.byte_count ∙ ap size (sym lists) }
