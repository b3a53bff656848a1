-- The swaps of the slots that are noted of a router are those of all slots of the section.
use Rattle.std.proofs.Common.{◌≡◌, ℕ, zero, suc, ◌+◌, ◌-◌, ◌<◌, ◌≤◌, Bool, false, List, [], ◌∷◌, ◌++◌, map, append_assoc, Option, Some, None, refl, sym, ap, ◌∙◌, subst, arith, ⊎_elim}
use Rattle.std.specs.Prelude.{All, AllPairs, Contains, option_to_list, if◌then◌else◌, ◌==◌}
use Rattle.std.specs.List.{cons_option}
use Rattle.std.proofs.lemmas.Bool.{cases_eq, ne_eqb}
use Rattle.std.proofs.lemmas.List.{append-nil, map-id}
use Rattle.std.proofs.lemmas.List.Elements.{All-contains, All-cons, All-head, All-tail}
use Rattle.lsa_codec.specs.declared.address.RouterId.{RouterId}
use Rattle.lsa_codec.specs.Fields.{advertising_router_of}
use Rattle.lsdb.specs.declared.section.Section.{Section}
use Rattle.lsdb.specs.Slots.{Slot, Slots, SectionSlots, item_at, slot_in, slots_in, slots_or_none, slot_at}
use Rattle.lsdb.specs.RouterSlots.{SlotOfRouter, router_slot, AreSlotsOfRouter}
use Rattle.lsdb.proofs.ListLemmas.{pairs_head, pairs_tail}
use Rattle.edit_history.specs.Rules.{stays, removed}
use Rattle.edit_history.specs.Effect.{router_fate}
use Rattle.edit_history.specs.Exchange.{SwapData}
use Rattle.edit_history.specs.steps.Plans.{slot_of, swap_for, section_swaps, slot_swap}
use Rattle.edit_history.proofs.FailureFates.{swaps_at}

-- ---- slots in rising order, from index n on

-- all of a router's LSAs at these slots, of which the first has index n, are at slots that are noted
record Covers (router : RouterId) (n : ℕ) (ps : List Slot) (found : List SlotOfRouter) : Type 0 where
  rising : AllPairs (λ a b. a.index < b.index) found
  from : All (λ q. n ≤ q.index) found
  whole : (k : ℕ) (lsa : List ℕ) → item_at ps k ≡ Some (Some lsa) → advertising_router_of lsa ≡ router.0 → Contains found (router_slot (n + k) lsa)

moved : (found : List SlotOfRouter) (i j : ℕ) (lsa : List ℕ) → i ≡ j → Contains found (router_slot i lsa) → Contains found (router_slot j lsa)
moved found i j lsa e has = subst (λ (k : ℕ). Contains found (router_slot k lsa)) e has

-- the first slot is not noted
passed : (router : RouterId) (n : ℕ) (p : Slot) (ps : List Slot) (found : List SlotOfRouter) → Covers router n (p ∷ ps) found
    → All (λ q. suc n ≤ q.index) found → Covers router (suc n) ps found
passed router n p ps found covers further = record {
  rising = covers.rising;
  from = further;
  whole = λ k lsa at own. moved found (n + suc k) (suc n + k) lsa (omega arith) (covers.whole (suc k) lsa at own);
}

in_tail : (q : SlotOfRouter) (qs : List SlotOfRouter) (p : SlotOfRouter) → q.index < p.index → Contains (q ∷ qs) p → Contains qs p
in_tail q qs p less (zero, within, is) = absurd (omega (arith, ap (λ (r : SlotOfRouter). r.index) is))
in_tail q qs p less (suc k, within, is) = (k, omega arith, is)

-- the first slot is noted
taken : (router : RouterId) (n : ℕ) (p : Slot) (ps : List Slot) (q : SlotOfRouter) (qs : List SlotOfRouter) → q.index ≡ n
    → Covers router n (p ∷ ps) (q ∷ qs) → Covers router (suc n) ps qs
taken router n p ps q qs here' covers =
    let further = pairs_head (λ (a b : SlotOfRouter). a.index < b.index) q qs covers.rising in
    record {
      rising = pairs_tail (λ (a b : SlotOfRouter). a.index < b.index) q qs covers.rising;
      from = λ k d lt. omega (arith, further k d lt);
      whole = λ k lsa at own.
          moved qs (n + suc k) (suc n + k) lsa (omega arith)
          (in_tail q qs (router_slot (n + suc k) lsa) (omega arith) (covers.whole (suc k) lsa at own));
    }

all_after : (n : ℕ) (q : SlotOfRouter) (qs : List SlotOfRouter) → suc n ≤ q.index → All (λ r. q.index < r.index) qs → All (λ r. suc n ≤ r.index) (q ∷ qs)
all_after n q qs far later = All-cons (λ (r : SlotOfRouter). suc n ≤ r.index) q qs far (λ k d lt. omega (arith, later k d lt))

-- ---- the swaps of noted slots

abbrev pub found_swaps : RouterId → ℕ → Section → (ℕ → Option Slot) → List SlotOfRouter → List SwapData
found_swaps router section name look [] = []
found_swaps router section name look (q ∷ qs) =
    option_to_list (slot_swap (router_fate router) (slot_of section q.index) name (look q.index)) ++ found_swaps router section name look qs

-- the LSAs at the slots, of which the first has index n
abbrev Shows : (ℕ → Option Slot) → ℕ → List Slot → Type 0
Shows look n ps = (k : ℕ) → look (n + k) ≡ item_at ps k

module _ (router : RouterId) (section : ℕ) (name : Section) (look : ℕ → Option Slot) where
  not_own : (n : ℕ) (p : Slot) (ps : List Slot) → ((x : List ℕ) → p ≡ Some x → (advertising_router_of x == router.0) ≡ false)
      → section_swaps (router_fate router) section name n (p ∷ ps) ≡ section_swaps (router_fate router) section name (suc n) ps
  not_own n None ps other = refl
  not_own n (Some x) ps other =
      let rest : List SwapData = section_swaps (router_fate router) section name (suc n) ps in
      ap (λ (b : Bool). cons_option (swap_for (slot_of section n) name x (if b then removed else stays)) rest) (other x refl)

  other_router : (n : ℕ) (p : Slot) (ps : List Slot) (found : List SlotOfRouter) (x : List ℕ) → Covers router n (p ∷ ps) found
      → All (λ q. suc n ≤ q.index) found → p ≡ Some x → (advertising_router_of x == router.0) ≡ false
  other_router n p ps found x covers further is =
      ne_eqb (advertising_router_of x) router.0 (λ own.
      absurd (let far = All-contains (λ (q : SlotOfRouter). suc n ≤ q.index) found (router_slot (n + 0) x) further
      (covers.whole 0 x (ap (λ (o : Slot). Some o) is) own) in omega arith))

  beyond : (n : ℕ) (found : List SlotOfRouter) → Shows look n [] → All (λ q. n ≤ q.index) found → found_swaps router section name look found ≡ []
  beyond n [] shows from = refl
  beyond n (q ∷ qs) shows from =
      let first : n ≤ q.index = All-head (λ (p : SlotOfRouter). n ≤ p.index) q qs from in
      let number : q.index ≡ n + (q.index - n) = omega arith in
      let none : look q.index ≡ None = ap look number ∙ shows (q.index - n) in
      let rest : List SwapData = found_swaps router section name look qs in
      ap (λ (o : Option Slot). option_to_list (slot_swap (router_fate router) (slot_of section q.index) name o) ++ rest) none
      ∙ beyond n qs shows (All-tail (λ (p : SlotOfRouter). n ≤ p.index) q qs from)

  next : (n : ℕ) (p : Slot) (ps : List Slot) → Shows look n (p ∷ ps) → Shows look (suc n) ps
  next n p ps shows k = ap look (let e : suc n + k ≡ n + suc k = omega arith in e) ∙ shows (suc k)

  swaps_from_index : (n : ℕ) (ps : List Slot) (found : List SlotOfRouter) → Shows look n ps → Covers router n ps found
      → found_swaps router section name look found ≡ section_swaps (router_fate router) section name n ps
  swaps_from_index n [] found shows covers = beyond n found shows covers.from
  swaps_from_index n (p ∷ ps) [] shows covers =
      let further : All (λ (q : SlotOfRouter). suc n ≤ q.index) [] = λ k d lt. absurd (omega arith) in
      swaps_from_index (suc n) ps [] (next n p ps shows) (passed router n p ps [] covers further)
      ∙ sym (not_own n p ps (λ x is. other_router n p ps [] x covers further is))
  swaps_from_index n (p ∷ ps) (q ∷ qs) shows covers = ⊎_elim
      (λ same.
      let stands : look q.index ≡ Some p = ap look (let e : q.index ≡ n + 0 = omega arith in e) ∙ shows 0 in
      let rest : List SwapData = found_swaps router section name look qs in
      ap (λ (o : Option Slot). option_to_list (slot_swap (router_fate router) (slot_of section q.index) name o) ++ rest) stands
      ∙ ap (λ (k : ℕ). option_to_list (slot_swap (router_fate router) (slot_of section k) name (Some p)) ++ rest) same
      ∙ ap (λ (ss : List SwapData). option_to_list (slot_swap (router_fate router) (slot_of section n) name (Some p)) ++ ss)
      (swaps_from_index (suc n) ps qs (next n p ps shows) (taken router n p ps q qs same covers))
      ∙ sym (swaps_at (router_fate router) section name n p ps))
      (λ other.
      let first : n ≤ q.index = All-head (λ (r : SlotOfRouter). n ≤ r.index) q qs covers.from in
      let far : suc n ≤ q.index = omega arith in
      let later = pairs_head (λ (a b : SlotOfRouter). a.index < b.index) q qs covers.rising in
      let further : All (λ (r : SlotOfRouter). suc n ≤ r.index) (q ∷ qs) = all_after n q qs far later in
      swaps_from_index (suc n) ps (q ∷ qs) (next n p ps shows) (passed router n p ps (q ∷ qs) covers further)
      ∙ sym (not_own n p ps (λ x is. other_router n p ps (q ∷ qs) x covers further is)))
      (cases_eq q.index n)

-- ---- a loop over the noted slots of a section

pub slot_is : (d : Slots) (section i : ℕ) → slot_at d (slot_of section i) ≡ item_at (slots_in d section) i
slot_is d section i = by_item (item_at d section) where
  by_item : (o : Option SectionSlots) → slot_in o i ≡ item_at (slots_or_none o) i
  by_item None = refl
  by_item (Some s) = refl

abbrev pub in_section : Slots → ℕ → ℕ → Option Slot
in_section d section i = slot_at d (slot_of section i)

pub found_all : (router : RouterId) (d : Slots) (section : ℕ) (name : Section) (found : List SlotOfRouter)
    → AreSlotsOfRouter (slots_in d section) router found
    → found_swaps router section name (in_section d section) found ≡ section_swaps (router_fate router) section name 0 (slots_in d section)
found_all router d section name found noted =
    swaps_from_index router section name (in_section d section) 0 (slots_in d section) found
    (λ k. ap (in_section d section) (let e : 0 + k ≡ k = omega arith in e) ∙ slot_is d section k)
    (record {
      rising = noted.rising;
      from = λ k d lt. omega arith;
      whole = λ k lsa at own. moved found k (0 + k) lsa (omega arith) (noted.whole k lsa at own);
    })

module _ (router : RouterId) (section : ℕ) (name : Section) (look : ℕ → Option Slot) where
  abbrev one_swap : SlotOfRouter → List SwapData
  one_swap q = option_to_list (slot_swap (router_fate router) (slot_of section q.index) name (look q.index))

  found_push : (read : List SlotOfRouter) (q : SlotOfRouter)
      → found_swaps router section name look (read ++ q ∷ []) ≡ found_swaps router section name look read ++ one_swap q
  found_push [] q = append-nil (one_swap q)
  found_push (p ∷ ps) q =
      ap (λ (ss : List SwapData). one_swap p ++ ss) (found_push ps q) ∙ sym (append_assoc (one_swap p) (found_swaps router section name look ps) (one_swap q))

  -- one more was read
  pub found_turn : (read : List SlotOfRouter) (q : SlotOfRouter) (start old new : List SwapData) → new ≡ old ++ one_swap q
      → old ≡ start ++ found_swaps router section name look read → new ≡ start ++ found_swaps router section name look (read ++ q ∷ [])
  found_turn read q start old new pushed so_far =
      pushed ∙ ap (λ (ss : List SwapData). ss ++ one_swap q) so_far ∙ append_assoc start (found_swaps router section name look read) (one_swap q)
      ∙ ap (λ (ss : List SwapData). start ++ ss) (sym (found_push read q))

  -- all were read
  pub found_end : (read found : List SlotOfRouter) (start swaps : List SwapData) → map (λ (q : SlotOfRouter). q) read ≡ found
      → swaps ≡ start ++ found_swaps router section name look read → swaps ≡ start ++ found_swaps router section name look found
  found_end read found start swaps all so_far =
      so_far ∙ ap (λ (qs : List SlotOfRouter). start ++ found_swaps router section name look qs) (sym (map-id read) ∙ all)
