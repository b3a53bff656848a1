-- An edit that was carried out and taken back leaves the LSAs as they were.
use Rattle.std.proofs.Common.{◌≡◌, ℕ, List, [], ◌∷◌, refl, ap, ◌∙◌}
use Rattle.lsdb.specs.Lists.{Lists}
use Rattle.lsdb.specs.Slots.{Slots, lists_of, open_at}
use Rattle.lsdb.proofs.SlotLemmas.{lists_of-open_at}
use Rattle.edit_script.specs.declared.edit.Edit.{Edit}
use Rattle.edit_history.specs.Applied.{Applied}
use Rattle.edit_history.specs.Exchange.{RecordData, undone_slots}
use Rattle.edit_history.specs.Grown.{Grown, opened}

-- slots that were opened have no LSAs
opened_lists : (d : Slots) (sections : List ℕ) → lists_of (opened d sections) ≡ lists_of d
opened_lists d [] = refl
opened_lists d (s ∷ ss) = opened_lists (open_at d s) ss ∙ lists_of-open_at d s

grown_lists : (d e : Slots) → Grown d e → lists_of e ≡ lists_of d
grown_lists d e (sections, is) = ap lists_of is ∙ opened_lists d sections

pub restored : (d e now : Slots) (db : Lists) (edit : Edit) (r : RecordData) → lists_of d ≡ db → Applied d e edit r → now ≡ undone_slots e r.swaps
    → lists_of now ≡ db
restored d e now db edit r same applied is = ap lists_of is ∙ grown_lists d (undone_slots e r.swaps) applied.before ∙ same
