-- What is seen of the slots in memory.
use Rattle.std.specs.Prelude.{ℕ, List, map, option_map}
use Rattle.std.specs.Prelude.{◌≡◌}
use Rattle.lsdb.specs.Lists.{AreaHead, IsDatabase, size}
use Rattle.lsdb.specs.Slots.{SectionSlots, Slots, lists_of}
use Rattle.lsdb.specs.declared.database.Head.{Head}
use Rattle.lsdb.specs.declared.database.SectionOf.{SectionOf}

abbrev pub head_of : Head → AreaHead
head_of h = record { id = h.id.0; is_stub = h.is_stub }

abbrev pub section_slots_of : {A : Type 0} → SectionOf A → SectionSlots
section_slots_of s = record { area = option_map head_of s.area; slots = s.slots }

abbrev pub slots_of : {A : Type 0} → List (SectionOf A) → Slots
slots_of ss = map section_slots_of ss

-- the sections make a database, and the number kept beside them is the length of its dump
pub record IsKept {A : Type 0} (sections : List (SectionOf A)) (kept : ℕ) : Type 0 where
  pub sound : IsDatabase (lists_of (slots_of sections))
  pub byte_count : kept ≡ size (lists_of (slots_of sections))
