-- The slots that change, section by section and slot by slot.
use Rattle.std.specs.Prelude.{ℕ, suc, List, [], ◌∷◌, ◌++◌, Option, Some, None}
use Rattle.std.specs.List.{cons_option}
use Rattle.lsa_codec.specs.Fields.{kind_of}
use Rattle.lsdb.specs.declared.section.Section.{Section}
use Rattle.lsdb.specs.declared.slot.SlotId.{SlotId}
use Rattle.lsdb.specs.Slots.{Slot, Slots}
use Rattle.event_lsas.specs.Outcomes.{LsaChange, kept, becomes, Outcome, section_name, SlotChangeData}

-- the change of a slot of a section, where the LSA there changes
abbrev pub slot_change : SlotId → Section → List ℕ → LsaChange → Option SlotChangeData
slot_change slot name lsa kept = None
slot_change slot name lsa (becomes new) = Some (record { slot = slot; section = name; kind = kind_of lsa; new = new })

-- the change of a slot by what stands there
abbrev pub change_at : (List ℕ → LsaChange) → SlotId → Section → Option Slot → Option SlotChangeData
change_at change slot name None = None
change_at change slot name (Some None) = None
change_at change slot name (Some (Some lsa)) = slot_change slot name lsa (change lsa)

abbrev pub slot_of : ℕ → ℕ → SlotId
slot_of section index = record { section = section; index = index }

-- the changes of the slots of a section, by its number and its name, from an index on
abbrev pub section_changes : (List ℕ → LsaChange) → ℕ → Section → ℕ → List Slot → List SlotChangeData
section_changes change section name i [] = []
section_changes change section name i (None ∷ ps) = section_changes change section name (suc i) ps
section_changes change section name i (Some lsa ∷ ps) =
    cons_option (slot_change (slot_of section i) name lsa (change lsa)) (section_changes change section name (suc i) ps)

-- the changes of the sections from a number on
abbrev pub changes_from : Outcome → ℕ → Slots → List SlotChangeData
changes_from outcome section [] = []
changes_from outcome section (s ∷ ss) =
    section_changes (outcome s.area) section (section_name s.area) 0 s.slots ++ changes_from outcome (suc section) ss
