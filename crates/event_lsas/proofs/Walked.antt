-- The slots, once all of them have changed, hold what the outcome leaves of the lists.
use Rattle.std.proofs.Common.{◌≡◌, ℕ, zero, suc, List, [], ◌∷◌, ◌++◌, length, map, append_assoc, length-append, Option, Some, None, refl, sym, ap, ◌∙◌, subst, arith}
use Rattle.std.specs.List.{filter_map, cons_option}
use Rattle.lsdb.specs.declared.section.Section.{Section}
use Rattle.lsdb.specs.declared.slot.SlotId.{SlotId}
use Rattle.lsdb.specs.Lists.{AreaHead, Lists}
use Rattle.lsdb.specs.Slots.{Slot, Slots, SectionSlots, put, put_slot, full, section_of, lists_of}
use Rattle.lsdb.proofs.SlotLemmas.{section_with, full-cons}
use Rattle.event_lsas.specs.Outcomes.{LsaChange, kept, becomes, Outcome, lsa_after, section_after, after, section_name, SlotChangeData, changed_slots}
use Rattle.event_lsas.specs.SlotChanges.{slot_change, slot_of, section_changes, changes_from}

abbrev section_slots : Option AreaHead → List Slot → SectionSlots
section_slots area slots = record { area = area; slots = slots }

abbrev slot_after : Outcome → Option AreaHead → Slot → Slot
slot_after outcome area None = None
slot_after outcome area (Some x) = lsa_after (outcome area x) x

abbrev slots_after : Outcome → Slots → Slots
slots_after outcome d = map (λ s. section_slots s.area (map (slot_after outcome s.area) s.slots)) d

-- ---- one slot in the middle

list_mid : (pre post : List Slot) (p v : Slot) (i : ℕ) → i ≡ length pre → put_slot v (pre ++ p ∷ post) i ≡ pre ++ v ∷ post
list_mid [] post p v zero e = refl
list_mid [] post p v (suc i) e = absurd (omega arith)
list_mid (q ∷ pre) post p v zero e = absurd (omega arith)
list_mid (q ∷ pre) post p v (suc i) e = ap (λ (qs : List Slot). q ∷ qs) (list_mid pre post p v i (omega arith))

slot_mid : (low high : Slots) (area : Option AreaHead) (pre post : List Slot) (p v : Slot) (section i : ℕ) → section ≡ length low → i ≡ length pre
    → put (low ++ section_slots area (pre ++ p ∷ post) ∷ high) (slot_of section i) v ≡ low ++ section_slots area (pre ++ v ∷ post) ∷ high
slot_mid [] high area pre post p v zero i e f = ap (λ (ps : List Slot). section_slots area ps ∷ high) (list_mid pre post p v i f)
slot_mid [] high area pre post p v (suc section) i e f = absurd (omega arith)
slot_mid (l ∷ low) high area pre post p v zero i e f = absurd (omega arith)
slot_mid (l ∷ low) high area pre post p v (suc section) i e f =
    ap (λ (ls : Slots). l ∷ ls) (slot_mid low high area pre post p v section i (omega arith) f)

-- ---- all slots

-- the slot that was passed is among those before it
shifted : (low high high' : Slots) (area : Option AreaHead) (pre post post' : List Slot) (v : Slot) (cs : List SlotChangeData)
    → changed_slots (low ++ section_slots area ((pre ++ v ∷ []) ++ post) ∷ high) cs ≡ low ++ section_slots area ((pre ++ v ∷ []) ++ post') ∷ high'
    → changed_slots (low ++ section_slots area (pre ++ v ∷ post) ∷ high) cs ≡ low ++ section_slots area (pre ++ v ∷ post') ∷ high'
shifted low high high' area pre post post' v cs walks =
    let one : pre ++ v ∷ post ≡ (pre ++ v ∷ []) ++ post = sym (append_assoc pre (v ∷ []) post) in
    let two : (pre ++ v ∷ []) ++ post' ≡ pre ++ v ∷ post' = append_assoc pre (v ∷ []) post' in
    ap (λ (ps : List Slot). changed_slots (low ++ section_slots area ps ∷ high) cs) one ∙ walks
    ∙ ap (λ (ps : List Slot). low ++ section_slots area ps ∷ high') two

-- the section that was passed is among those before it
passed : (low high high' : Slots) (l s s' : SectionSlots) (cs : List SlotChangeData)
    → changed_slots ((low ++ l ∷ []) ++ s ∷ high) cs ≡ (low ++ l ∷ []) ++ s' ∷ high'
    → changed_slots (low ++ l ∷ s ∷ high) cs ≡ low ++ l ∷ s' ∷ high'
passed low high high' l s s' cs walks =
    ap (λ (d : Slots). changed_slots d cs) (sym (append_assoc low (l ∷ []) (s ∷ high))) ∙ walks ∙ append_assoc low (l ∷ []) (s' ∷ high')

pushed : {X : Type 0} (xs : List X) (x : X) (n : ℕ) → n ≡ length xs → suc n ≡ length (xs ++ x ∷ [])
pushed xs x n e = omega (arith, e, length-append xs (x ∷ []))

-- one LSA, and then the others
walk_slot : (low high : Slots) (area : Option AreaHead) (name : Section) (pre post : List Slot) (x : List ℕ) (c : LsaChange) (section i : ℕ)
    (cs : List SlotChangeData) (e : Slots) → section ≡ length low → i ≡ length pre
    → changed_slots (low ++ section_slots area (pre ++ lsa_after c x ∷ post) ∷ high) cs ≡ e
    → changed_slots (low ++ section_slots area (pre ++ Some x ∷ post) ∷ high) (cons_option (slot_change (slot_of section i) name x c) cs) ≡ e
walk_slot low high area name pre post x kept section i cs e sections slots rest = rest
walk_slot low high area name pre post x (becomes new) section i cs e sections slots rest =
    ap (λ (d : Slots). changed_slots d cs) (slot_mid low high area pre post (Some x) new section i sections slots) ∙ rest

cons_append : (o : Option SlotChangeData) (xs ys : List SlotChangeData) → cons_option o xs ++ ys ≡ cons_option o (xs ++ ys)
cons_append None xs ys = refl
cons_append (Some c) xs ys = refl

-- the walk on from slot i of a section
walk : (outcome : Outcome) (low high : Slots) (area : Option AreaHead) (pre post : List Slot) (section i : ℕ) → section ≡ length low → i ≡ length pre
    → changed_slots (low ++ section_slots area (pre ++ post) ∷ high)
    (section_changes (outcome area) section (section_name area) i post ++ changes_from outcome (suc section) high)
    ≡ low ++ section_slots area (pre ++ map (slot_after outcome area) post) ∷ slots_after outcome high
walk outcome low [] area pre [] section i e g = refl
walk outcome low (s ∷ high) area pre [] section i e g =
    passed low high (slots_after outcome high) (section_slots area (pre ++ [])) s
    (section_slots s.area (map (slot_after outcome s.area) s.slots))
    (section_changes (outcome s.area) (suc section) (section_name s.area) 0 s.slots ++ changes_from outcome (suc (suc section)) high)
    (walk outcome (low ++ section_slots area (pre ++ []) ∷ []) high s.area [] s.slots (suc section) 0
    (pushed low (section_slots area (pre ++ [])) section e) refl)
walk outcome low high area pre (None ∷ post) section i e g =
    shifted low high (slots_after outcome high) area pre post (map (slot_after outcome area) post) None
    (section_changes (outcome area) section (section_name area) (suc i) post ++ changes_from outcome (suc section) high)
    (walk outcome low high area (pre ++ None ∷ []) post section (suc i) e (pushed pre None i g))
walk outcome low high area pre (Some x ∷ post) section i e g =
    let v : Slot = lsa_after (outcome area x) x in
    let later : List SlotChangeData = section_changes (outcome area) section (section_name area) (suc i) post in
    let others : List SlotChangeData = changes_from outcome (suc section) high in
    ap (λ (cs : List SlotChangeData). changed_slots (low ++ section_slots area (pre ++ Some x ∷ post) ∷ high) cs)
    (cons_append (slot_change (slot_of section i) (section_name area) x (outcome area x)) later others)
    ∙ walk_slot low high area (section_name area) pre post x (outcome area x) section i (later ++ others) _ e g
    (shifted low high (slots_after outcome high) area pre post (map (slot_after outcome area) post) v (later ++ others)
    (walk outcome low high area (pre ++ v ∷ []) post section (suc i) e (pushed pre v i g)))

walked : (outcome : Outcome) (d : Slots) → changed_slots d (changes_from outcome 0 d) ≡ slots_after outcome d
walked outcome [] = refl
walked outcome (s ∷ ss) = walk outcome [] ss s.area [] s.slots 0 0 refl refl

-- ---- the lists that they show

full_after : (outcome : Outcome) (area : Option AreaHead) (ps : List Slot)
    → full (map (slot_after outcome area) ps) ≡ filter_map (λ lsa. lsa_after (outcome area lsa) lsa) (full ps)
full_after outcome area [] = refl
full_after outcome area (None ∷ ps) = full_after outcome area ps
full_after outcome area (Some x ∷ ps) =
    full-cons (lsa_after (outcome area x) x) (map (slot_after outcome area) ps)
    ∙ ap (cons_option (lsa_after (outcome area x) x)) (full_after outcome area ps)

lists_after : (outcome : Outcome) (d : Slots) → lists_of (slots_after outcome d) ≡ after outcome (lists_of d)
lists_after outcome [] = refl
lists_after outcome (s ∷ ss) =
    ap (λ (xs : List (List ℕ)). section_with s.area xs ∷ lists_of (slots_after outcome ss)) (full_after outcome s.area s.slots)
    ∙ ap (λ (ts : Lists). section_after outcome (section_of s) ∷ ts) (lists_after outcome ss)

-- the slots with the changes of an outcome are the database after it
pub changes_lead : (outcome : Outcome) (d : Slots) → lists_of (changed_slots d (changes_from outcome 0 d)) ≡ after outcome (lists_of d)
changes_lead outcome d = ap lists_of (walked outcome d) ∙ lists_after outcome d
