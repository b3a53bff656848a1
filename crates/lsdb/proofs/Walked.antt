-- The full slots of a section, from the front.
use Rattle.std.proofs.Common.{◌≡◌, ℕ, zero, suc, ◌-◌, ◌<◌, ◌≤◌, List, [], ◌∷◌, length, take, drop, get_or, Option, Some, None, Bor, refl, sym, ap, ◌∙◌, arith}
use Rattle.std.proofs.Common.{rules, length-drop}
use Rattle.std.specs.Prelude.{All, IsSome, MatchOption}
use Rattle.std.specs.Option.{option_copied}
use Rattle.std.proofs.lemmas.List.{length-map, take_all}
use Rattle.std.proofs.lemmas.List.Elements.{All-nil, All-head, All-tail}
use Rattle.lsa_codec.specs.Accepted.{IsAccepted}
use Rattle.lsa_codec.specs.Key.{key_of}
use Rattle.lsdb.specs.declared.database.SectionOf.{SectionOf}
use Rattle.lsdb.specs.Counts.{AreFew, counts_of}
use Rattle.lsdb.specs.Lists.{AreaHead, SectionLsas, Lists, IsSection, limit_of, lsas_or_none}
use Rattle.lsdb.specs.Slots.{Slot, item_at, full, lists_of, lsa_at, lsa_or_none, lsas_in, slot_in, slot_at}
use Rattle.lsdb.specs.declared.slot.SlotId.{SlotId}
use Rattle.lsdb.specs.steps.View.{slots_of}
use Rattle.lsdb.proofs.CountedLsas.{counts_few}
use Rattle.lsdb.proofs.Searching.{turn}

-- the first full slot, and the slots after it
pub first_full : (ps rest : List Slot) (i j : ℕ) (lsa : List ℕ) (p : Slot) → i < length ps → j ≡ suc i
    → p ≡ get_or ps i p → p ≡ Some lsa → rest ≡ take (length ps - j) (drop j ps) → full (drop i ps) ≡ full ps
    → full ps ≡ lsa ∷ full rest
first_full ps rest i j lsa p within next here some beyond same =
    let t = turn ps i j p within next here in
    let all : rest ≡ drop j ps = beyond ∙ take_all (length ps - j) (drop j ps) (omega (arith, length-drop j ps)) in
    sym same ∙ ap (λ (qs : List Slot). full qs) t.rest ∙ ap (λ (q : Slot). full (q ∷ drop j ps)) some ∙ ap (λ (qs : List Slot). lsa ∷ full qs) (sym all)

-- ---- the LSAs of a section

pub section_seen : {A : Type 0}
    → (ss : List (SectionOf A)) (section : ℕ) (s : SectionOf A) (slots : List Slot)
    → IsSome (item_at (lists_of (slots_of ss)) section) → s ≡ get_or ss section s → slots ≡ s.slots
    → full slots ≡ lsas_in (slots_of ss) section
section_seen {A} [] section s slots some h e = absurd (search rules)
section_seen {A} (t ∷ ss) zero s slots some h e = ap (λ (ps : List Slot). full ps) (e ∙ ap (λ (x : SectionOf A). x.slots) h)
section_seen {A} (t ∷ ss) (suc section) s slots some h e = section_seen ss section s slots some h e

-- ---- their number

pub section_few : (s : SectionLsas) → IsSection s → length s.lsas ≤ 65535
section_few s h = omega (arith, length-map s.lsas key_of, h.keys.few, limit_most s.area) where
  limit_most : (area : Option AreaHead) → limit_of area ≤ 65535
  limit_most None = omega arith
  limit_most (Some area) = omega arith

pub few_at : (db : Lists) (section : ℕ) → All IsSection db → length (lsas_or_none (item_at db section)) ≤ 65535
few_at [] section h = omega arith
few_at (s ∷ db) zero h = section_few s (All-head IsSection s db h)
few_at (s ∷ db) (suc section) h = few_at db section (All-tail IsSection s db h)

pub counts_few_at : (db : Lists) (section : ℕ) → All IsSection db → AreFew 65535 (counts_of (lsas_or_none (item_at db section)))
counts_few_at [] section h = counts_few [] (All-nil IsAccepted) (omega arith)
counts_few_at (s ∷ db) zero h =
    let one = All-head IsSection s db h in
    counts_few s.lsas one.accepted (section_few s one)
counts_few_at (s ∷ db) (suc section) h = counts_few_at db section (All-tail IsSection s db h)

-- ---- one slot of a section

slot_here : {A : Type 0} → (ss : List (SectionOf A)) (section i : ℕ) (s : SectionOf A) → section < length ss → s ≡ get_or ss section s
    → slot_in (item_at (slots_of ss) section) i ≡ item_at s.slots i
slot_here {A} [] section i s lt is = absurd (omega arith)
slot_here {A} (t ∷ ss) zero i s lt is = ap (λ (o : SectionOf A). item_at o.slots i) (sym is)
slot_here {A} (t ∷ ss) (suc section) i s lt is = slot_here ss section i s (omega arith) is

item_beyond : (ps : List Slot) (i : ℕ) → length ps ≤ i → item_at ps i ≡ None
item_beyond [] i le = refl
item_beyond (p ∷ ps) zero le = absurd (omega arith)
item_beyond (p ∷ ps) (suc i) le = item_beyond ps i (omega arith)

module _ {A : Type 0} (ss : List (SectionOf A)) (slot : SlotId) (s : SectionOf A) (ps : List Slot) (lt : slot.section < length ss)
    (is : s ≡ get_or ss slot.section s) (here : ps ≡ s.slots) where
  stands : slot_at (slots_of ss) slot ≡ item_at ps slot.index
  stands = slot_here ss slot.section slot.index s lt is ∙ ap (λ (qs : List Slot). item_at qs slot.index) (sym here)

  -- there is no such slot
  pub lsa_beyond : length ps ≤ slot.index → lsa_at (slots_of ss) slot ≡ None
  lsa_beyond le = ap lsa_or_none (stands ∙ item_beyond ps slot.index le)

  -- what stands at the slot
  pub lsa_there : (p : Slot) (r : Option (Bor (List ℕ))) → slot.index < length ps → p ≡ get_or ps slot.index p → option_copied r ≡ p
      → MatchOption r (lsa_at (slots_of ss) slot ≡ None) (λ lsa. slot_at (slots_of ss) slot ≡ Some (Some lsa.now))
  lsa_there p None within read same = ap lsa_or_none (stands ∙ (turn ps slot.index (suc slot.index) p within refl read).here ∙ ap (λ (q : Slot). Some q) (sym same))
  lsa_there p (Some lsa) within read same =
      stands ∙ (turn ps slot.index (suc slot.index) p within refl read).here ∙ ap (λ (q : Slot). Some q) (sym same)
