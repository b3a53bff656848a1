-- The swaps of the two passes, one after the other, are those of both at once: the backbone comes first.
use Rattle.std.proofs.Common.{◌≡◌, ℕ, suc, ◌<◌, Bool, true, false, cond, List, [], ◌∷◌, ◌++◌, map, append-nil, Option, Some, None, refl, sym, ap}
use Rattle.std.proofs.Common.{◌∙◌, arith}
use Rattle.std.specs.Prelude.{All, AllPairs, not, ◌==◌}
use Rattle.std.proofs.lemmas.Bool.{eqb-true}
use Rattle.std.proofs.lemmas.List.Elements.{All-cons, All-head, All-nil, All-tail}
use Rattle.lsa_codec.specs.Areas.{is_backbone}
use Rattle.lsdb.specs.declared.section.Section.{Section}
use Rattle.lsdb.specs.Lists.{AreaHead, Lists, IsBefore, IsDatabase, heads_of}
use Rattle.lsdb.specs.Slots.{Slot, Slots, lists_of}
use Rattle.lsdb.proofs.ListLemmas.{pairs_head}
use Rattle.summary_metrics.specs.Refreshed.{id_of, is_not_backbone, refreshed_areas}
use Rattle.edit_history.specs.Rules.{Fate, stays, Fates, section_name, outcome}
use Rattle.edit_history.specs.Exchange.{SwapData, done_slots}
use Rattle.edit_history.specs.Refreshing.{metric_fate, pass_fates, refresh_fates}
use Rattle.edit_history.specs.steps.Plans.{section_swaps, swaps_from}
use Rattle.edit_history.proofs.FailureFates.{same_swaps, no_swaps}
use Rattle.edit_history.proofs.FatesBySlot.{section_slots, slot_after, slots_after, walked, lists-after}
use Rattle.edit_history.proofs.RefreshFates.{pass_safe, pass_after}

-- ---- where all LSAs of a section stay

none_of : (fate : List ℕ → Fate) (section : ℕ) (name : Section) (ps : List Slot) → ((x : List ℕ) → fate x ≡ stays)
    → section_swaps fate section name 0 ps ≡ []
none_of fate section name ps stay = same_swaps fate (λ x. stays) section name 0 ps stay ∙ no_swaps section name 0 ps

slot_same : (fates : Fates) (area : Option AreaHead) (p : Slot) → ((x : List ℕ) → fates area x ≡ stays) → slot_after fates area p ≡ p
slot_same fates area None stay = refl
slot_same fates area (Some x) stay = ap (λ (f : Fate). outcome f x) (stay x)

slots_same : (fates : Fates) (area : Option AreaHead) (ps : List Slot) → ((x : List ℕ) → fates area x ≡ stays)
    → map (slot_after fates area) ps ≡ ps
slots_same fates area [] stay = refl
slots_same fates area (p ∷ ps) stay =
    let here = slot_same fates area p stay in
    let rest = slots_same fates area ps stay in
    λ i. here i ∷ rest i

-- ---- areas after others are not the backbone

abbrev IsElsewhere : Option AreaHead → Type 0
IsElsewhere None = Unit {0}
IsElsewhere (Some head) = is_backbone (id_of head) ≡ false

not_zero : (a b : ℕ) → a < b → (c : Bool) → (b == 0) ≡ c → (b == 0) ≡ false
not_zero a b lt true is = let zero_is : b ≡ 0 = eqb-true b 0 is in absurd (omega (arith, lt, zero_is))
not_zero a b lt false is = is

beyond : (a b : Option AreaHead) → IsBefore a b → IsElsewhere b
beyond None b before = absurd before
beyond (Some h) None before = tt
beyond (Some h) (Some t) before = not_zero h.id t.id before (t.id == 0) refl

all_after : (a : Option AreaHead) (heads : List (Option AreaHead)) → All (IsBefore a) heads → All IsElsewhere heads
all_after a [] all = All-nil IsElsewhere
all_after a (b ∷ heads) all =
    All-cons IsElsewhere b heads (beyond a b (All-head (IsBefore a) b heads all)) (all_after a heads (All-tail (IsBefore a) b heads all))

module _ (db : Lists) where
  abbrev middle : Lists
  middle = refreshed_areas is_backbone db

  abbrev first : Fates
  first = pass_fates is_backbone db

  abbrev second : Fates
  second = pass_fates is_not_backbone middle

  abbrev both : Fates
  both = refresh_fates db

  -- ---- one section

  abbrev both_fate : AreaHead → List ℕ → Bool → Fate
  both_fate head x b = cond b (metric_fate db (id_of head) x) (metric_fate middle (id_of head) x)

  first_elsewhere : (area : Option AreaHead) → IsElsewhere area → (x : List ℕ) → first area x ≡ stays
  first_elsewhere None apart x = refl
  first_elsewhere (Some head) apart x = ap (λ b. cond b (metric_fate db (id_of head) x) stays) apart

  second_elsewhere : (area : Option AreaHead) → IsElsewhere area → (x : List ℕ) → second area x ≡ both area x
  second_elsewhere None apart x = refl
  second_elsewhere (Some head) apart x =
      ap (λ b. cond (not b) (metric_fate middle (id_of head) x) stays) apart ∙ sym (ap (both_fate head x) apart)

  first_backbone : (head : AreaHead) → is_backbone (id_of head) ≡ true → (x : List ℕ) → first (Some head) x ≡ both (Some head) x
  first_backbone head is x = ap (λ b. cond b (metric_fate db (id_of head) x) stays) is ∙ sym (ap (both_fate head x) is)

  second_backbone : (head : AreaHead) → is_backbone (id_of head) ≡ true → (x : List ℕ) → second (Some head) x ≡ stays
  second_backbone head is x = ap (λ b. cond (not b) (metric_fate middle (id_of head) x) stays) is

  -- ---- sections without the backbone

  none_first : (k : ℕ) (ss : Slots) → All IsElsewhere (heads_of (lists_of ss)) → swaps_from first k ss ≡ []
  none_first k [] all = refl
  none_first k (s ∷ ss) all =
      let apart : IsElsewhere s.area = All-head IsElsewhere s.area (heads_of (lists_of ss)) all in
      ap (λ (xs : List SwapData). xs ++ swaps_from first (suc k) ss) (none_of (first s.area) k (section_name s.area) s.slots (first_elsewhere s.area apart))
      ∙ none_first (suc k) ss (All-tail IsElsewhere s.area (heads_of (lists_of ss)) all)

  same_slots : (ss : Slots) → All IsElsewhere (heads_of (lists_of ss)) → slots_after first ss ≡ ss
  same_slots [] all = refl
  same_slots (s ∷ ss) all =
      let apart : IsElsewhere s.area = All-head IsElsewhere s.area (heads_of (lists_of ss)) all in
      let here = slots_same first s.area s.slots (first_elsewhere s.area apart) in
      let rest = same_slots ss (All-tail IsElsewhere s.area (heads_of (lists_of ss)) all) in
      λ i. section_slots s.area (here i) ∷ rest i

  all_second : (k : ℕ) (ss : Slots) → All IsElsewhere (heads_of (lists_of ss)) → swaps_from second k ss ≡ swaps_from both k ss
  all_second k [] all = refl
  all_second k (s ∷ ss) all =
      let apart : IsElsewhere s.area = All-head IsElsewhere s.area (heads_of (lists_of ss)) all in
      let here = same_swaps (second s.area) (both s.area) k (section_name s.area) 0 s.slots (second_elsewhere s.area apart) in
      let rest = all_second (suc k) ss (All-tail IsElsewhere s.area (heads_of (lists_of ss)) all) in
      λ i. here i ++ rest i

  elsewhere : (ss : Slots) → All IsElsewhere (heads_of (lists_of ss)) → swaps_from first 0 ss ++ swaps_from second 0 (slots_after first ss)
      ≡ swaps_from both 0 ss
  elsewhere ss all =
      let none = none_first 0 ss all in
      let same = same_slots ss all in
      (λ i. none i ++ swaps_from second 0 (same i)) ∙ all_second 0 ss all

  -- ---- all sections

  joined : (d : Slots) → AllPairs IsBefore (heads_of (lists_of d))
      → swaps_from first 0 d ++ swaps_from second 0 (slots_after first d) ≡ swaps_from both 0 d
  joined [] order = refl
  joined (s ∷ ss) order = by_area s.area s.slots (all_after s.area (heads_of (lists_of ss)) (pairs_head IsBefore s.area (heads_of (lists_of ss)) order))
    where
      by_area : (area : Option AreaHead) (ps : List Slot) → All IsElsewhere (heads_of (lists_of ss))
          → swaps_from first 0 (section_slots area ps ∷ ss) ++ swaps_from second 0 (slots_after first (section_slots area ps ∷ ss))
          ≡ swaps_from both 0 (section_slots area ps ∷ ss)
      by_area None ps all = elsewhere (section_slots None ps ∷ ss) (All-cons IsElsewhere None (heads_of (lists_of ss)) tt all)
      by_area (Some head) ps all = by_test (is_backbone (id_of head)) refl
        where
          by_test : (b : Bool) → is_backbone (id_of head) ≡ b
              → swaps_from first 0 (section_slots (Some head) ps ∷ ss) ++ swaps_from second 0 (slots_after first (section_slots (Some head) ps ∷ ss))
              ≡ swaps_from both 0 (section_slots (Some head) ps ∷ ss)
          by_test false is = elsewhere (section_slots (Some head) ps ∷ ss) (All-cons IsElsewhere (Some head) (heads_of (lists_of ss)) is all)
          by_test true is =
              let name : Section = section_name (Some head) in
              let here = section_swaps (first (Some head)) 0 name 0 ps in
              let none = none_first 1 ss all in
              let gone = none_of (second (Some head)) 0 name (map (slot_after first (Some head)) ps) (second_backbone head is) in
              let same = same_slots ss all in
              (λ i. (here ++ none i) ++ (gone i ++ swaps_from second 1 (same i)))
              ∙ ap (λ (xs : List SwapData). xs ++ swaps_from second 1 ss) (append-nil here)
              ∙ (λ i. same_swaps (first (Some head)) (both (Some head)) 0 name 0 ps (first_backbone head is) i ++ all_second 1 ss all i)

-- where the first pass is done, the backbone is refreshed
pub first_leads : (d : Slots) (one : List SwapData) → IsDatabase (lists_of d) → one ≡ swaps_from (pass_fates is_backbone (lists_of d)) 0 d
    → lists_of (done_slots d one) ≡ refreshed_areas is_backbone (lists_of d)
first_leads d one sound is =
    let db : Lists = lists_of d in
    ap lists_of (ap (done_slots d) is ∙ (walked (first db) d (pass_safe is_backbone db) sound).leads) ∙ lists-after (first db) d
    ∙ pass_after is_backbone db db

-- the swaps of the first pass, and those of the second one where the first is done
pub passes_joined : (d e : Slots) (one two : List SwapData) → IsDatabase (lists_of d) → one ≡ swaps_from (pass_fates is_backbone (lists_of d)) 0 d
    → e ≡ done_slots d one → two ≡ swaps_from (pass_fates is_not_backbone (lists_of e)) 0 e
    → one ++ two ≡ swaps_from (refresh_fates (lists_of d)) 0 d
passes_joined d e one two sound one_is done two_is =
    let db : Lists = lists_of d in
    let there : e ≡ slots_after (first db) d = done ∙ ap (done_slots d) one_is ∙ (walked (first db) d (pass_safe is_backbone db) sound).leads in
    let shown : lists_of (slots_after (first db) d) ≡ refreshed_areas is_backbone db = lists-after (first db) d ∙ pass_after is_backbone db db in
    let moved : two ≡ swaps_from (second db) 0 (slots_after (first db) d) =
    two_is ∙ ap (λ (u : Slots). swaps_from (pass_fates is_not_backbone (lists_of u)) 0 u) there
    ∙ ap (λ (l : Lists). swaps_from (pass_fates is_not_backbone l) 0 (slots_after (first db) d)) shown in
    (λ i. one_is i ++ moved i) ∙ joined db d sound.heads.order
