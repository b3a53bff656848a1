use Rattle.std.proofs.Common.{◌≡◌, ◌∙◌, ℕ, ◌+◌, ◌<◌, List, [], ◌∷◌, ◌++◌, length, take, get_or, sym, ap, arith, option_map}
use Rattle.std.proofs.lemmas.List.{map-append, take_more}
use Rattle.lsdb.specs.declared.database.SectionOf.{SectionOf}
use Rattle.lsdb.specs.Slots.{Slot, SectionSlots}
use Rattle.lsdb.specs.steps.View.{head_of, slots_of, section_slots_of}
use Rattle.lsdb.proofs.copy.copy_of_sections.Goals as goal

one_more : {A : Type 0} (sections copy new : List (SectionOf A)) (i : ℕ) (section same : SectionOf A) → i < length sections
    → section ≡ get_or sections i section → section_slots_of same ≡ section_slots_of section → new ≡ copy ++ same ∷ []
    → slots_of copy ≡ slots_of (take i sections) → slots_of new ≡ slots_of (take (i + 1) sections)
one_more {A} sections copy new i section same lt is copied pushed before =
    let last : section_slots_of same ∷ [] ≡ slots_of (get_or sections i section ∷ []) =
    ap (λ (s : SectionSlots). s ∷ []) (copied ∙ ap (λ (s : SectionOf A). section_slots_of s) is) in
    ap (λ (ss : List (SectionOf A)). slots_of ss) pushed
    ∙ map-append (λ (s : SectionOf A). section_slots_of s) copy (same ∷ [])
    ∙ ap (λ (ss : List SectionSlots). ss ++ section_slots_of same ∷ []) before
    ∙ ap (λ (ss : List SectionSlots). slots_of (take i sections) ++ ss) last
    ∙ sym (map-append (λ (s : SectionOf A). section_slots_of s) (take i sections) (get_or sections i section ∷ []))
    ∙ ap (λ (ss : List (SectionOf A)). slots_of ss) (sym (take_more sections i section lt))

pub loop-section-preserved : goal.loop-section-preserved
loop-section-preserved g c =
    one_more c.args.sections.now c.loop-section.copy.items c.push.new.self.items c.loop-section.section-index c.section-item.result _ (omega arith)
    c.section-item.is
    (ap (λ (slots : List Slot). let s : SectionSlots = record { area = option_map head_of c.section-item.result.area; slots = slots } in s)
    c.in_ok-slots.ensures)
    c.in_ok-push.ensures.items c.loop-section.invariant
