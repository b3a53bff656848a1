-- The swaps of a section where no more than two slots change.
use Rattle.std.proofs.Common.{◌≡◌, ◌≢◌, ℕ, zero, suc, ◌+◌, ◌<◌, ◌≤◌, Bool, true, false, List, [], ◌∷◌, ◌++◌, map, Option, Some, None, refl, sym, ap, ◌∙◌, subst, arith, ⊎_elim}
use Rattle.std.specs.Prelude.{All, AllPairs, option_to_list, nat_le, if◌then◌else◌, ◌==◌}
use Rattle.std.specs.List.{cons_option}
use Rattle.std.proofs.lemmas.Bool.{cases_lt, eq-eqb, le-leb, leb-true}
use Rattle.std.proofs.lemmas.List.{append-nil}
use Rattle.std.proofs.lemmas.List.Elements.{All-head, All-tail}
use Rattle.lsa_codec.specs.declared.address.AreaId.{AreaId}
use Rattle.lsa_codec.specs.declared.address.RouterId.{RouterId}
use Rattle.lsa_codec.specs.declared.key.Key.{Key}
use Rattle.lsa_codec.specs.Key.{key_of, router_key}
use Rattle.lsa_codec.specs.Making.{without_links, leads_to}
use Rattle.lsdb.specs.declared.section.Section.{Section}
use Rattle.lsdb.specs.declared.section.Section.TheVariants.{Area}
use Rattle.lsdb.specs.declared.slot.SlotId.{SlotId}
use Rattle.lsdb.specs.Lists.{IsBefore, IsDatabase, IsSection, heads_of, has_key, is_head_of}
use Rattle.lsdb.specs.Slots.{Slot, Slots, SectionSlots, item_at, slot_at, full, lists_of, slots_in, slots_or_none, section_of}
use Rattle.lsdb.proofs.KeyLemmas.{other_key}
use Rattle.lsdb.proofs.ListLemmas.{all_map, pairs_head, pairs_tail}
use Rattle.edit_history.specs.Rules.{Fate, stays}
use Rattle.edit_history.specs.Effect.{cut, link_fate}
use Rattle.edit_history.specs.Exchange.{SwapData}
use Rattle.edit_history.specs.steps.Plans.{IsFirstLsa, slot_of, swap_for, section_swaps, slot_swap}
use Rattle.edit_history.specs.steps.Failing.{in_order, pair_swaps, swaps_at_slot}
use Rattle.edit_history.proofs.Keys.{head_before}
use Rattle.edit_history.proofs.NamedLsas.{key_is}
use Rattle.edit_history.proofs.Searches.{there_too}
use Rattle.edit_history.proofs.FailureFates.{HasSection, before_item, has_section, list_item, swaps_at}
use Rattle.edit_history.proofs.RouterSwaps.{slot_is}

-- ---- fates by slot

module _ (fate : List ℕ → Fate) (section : ℕ) (name : Section) where
  -- all LSAs at these slots stay, except for some
  abbrev Stays : (ℕ → Type 0) → List Slot → Type 0
  Stays But ps = (k : ℕ) (x : List ℕ) → item_at ps k ≡ Some (Some x) → (But k → ⊥) → fate x ≡ stays

  abbrev swap_at : ℕ → Option Slot → List SwapData
  swap_at n p = option_to_list (slot_swap fate (slot_of section n) name p)

  over : (n : ℕ) (p : Slot) (ps : List Slot) → ((x : List ℕ) → p ≡ Some x → fate x ≡ stays)
      → section_swaps fate section name n (p ∷ ps) ≡ section_swaps fate section name (suc n) ps
  over n None ps still = refl
  over n (Some x) ps still =
      ap (λ (f : Fate). cons_option (swap_for (slot_of section n) name x f) (section_swaps fate section name (suc n) ps)) (still x refl)

  none_swaps : (n : ℕ) (ps : List Slot) → ((k : ℕ) (x : List ℕ) → item_at ps k ≡ Some (Some x) → fate x ≡ stays)
      → section_swaps fate section name n ps ≡ []
  none_swaps n [] still = refl
  none_swaps n (p ∷ ps) still =
      over n p ps (λ x is. still 0 x (ap (λ (q : Slot). Some q) is)) ∙ none_swaps (suc n) ps (λ k x at. still (suc k) x at)

  one_swap : (n i : ℕ) (ps : List Slot) → ((k : ℕ) (x : List ℕ) → k ≢ i → item_at ps k ≡ Some (Some x) → fate x ≡ stays)
      → section_swaps fate section name n ps ≡ swap_at (n + i) (item_at ps i)
  one_swap n i [] still = refl
  one_swap n zero (p ∷ ps) still =
      swaps_at fate section name n p ps
      ∙ ap (λ (ss : List SwapData). swap_at n (Some p) ++ ss) (none_swaps (suc n) ps (λ k x at. still (suc k) x (λ e. omega (arith, e)) at))
      ∙ append-nil (swap_at n (Some p))
      ∙ ap (λ (k : ℕ). swap_at k (Some p)) (let e : n ≡ n + 0 = omega arith in e)
  one_swap n (suc i) (p ∷ ps) still =
      over n p ps (λ x is. still 0 x (λ e. omega (arith, e)) (ap (λ (q : Slot). Some q) is))
      ∙ one_swap (suc n) i ps (λ k x other at. still (suc k) x (λ e. other (omega (arith, e))) at)
      ∙ ap (λ (k : ℕ). swap_at k (item_at ps i)) (let e : suc n + i ≡ n + suc i = omega arith in e)

  two_swaps : (n i j : ℕ) (ps : List Slot) → i < j
      → ((k : ℕ) (x : List ℕ) → k ≢ i → k ≢ j → item_at ps k ≡ Some (Some x) → fate x ≡ stays)
      → section_swaps fate section name n ps ≡ swap_at (n + i) (item_at ps i) ++ swap_at (n + j) (item_at ps j)
  two_swaps n i zero ps lt still = absurd (omega arith)
  two_swaps n i (suc j) [] lt still = refl
  two_swaps n zero (suc j) (p ∷ ps) lt still =
      swaps_at fate section name n p ps
      ∙ ap (λ (ss : List SwapData). swap_at n (Some p) ++ ss)
      (one_swap (suc n) j ps (λ k x other at. still (suc k) x (λ e. omega (arith, e)) (λ e. other (omega (arith, e))) at))
      ∙ ap (λ (k : ℕ). swap_at n (Some p) ++ swap_at k (item_at ps j)) (let e : suc n + j ≡ n + suc j = omega arith in e)
      ∙ ap (λ (k : ℕ). swap_at k (Some p) ++ swap_at (n + suc j) (item_at ps j)) (let e : n ≡ n + 0 = omega arith in e)
  two_swaps n (suc i) (suc j) (p ∷ ps) lt still =
      over n p ps (λ x is. still 0 x (λ e. omega (arith, e)) (λ e. omega (arith, e)) (ap (λ (q : Slot). Some q) is))
      ∙ two_swaps (suc n) i j ps (omega arith)
      (λ k x one two at. still (suc k) x (λ e. one (omega (arith, e))) (λ e. two (omega (arith, e))) at)
      ∙ ap (λ (k : ℕ). swap_at k (item_at ps i) ++ swap_at (suc n + j) (item_at ps j)) (let e : suc n + i ≡ n + suc i = omega arith in e)
      ∙ ap (λ (k : ℕ). swap_at (n + suc i) (item_at ps i) ++ swap_at k (item_at ps j)) (let e : suc n + j ≡ n + suc j = omega arith in e)

  pub pair_of_section : (d : Slots) (i j : ℕ) → i < j
      → ((k : ℕ) (x : List ℕ) → k ≢ i → k ≢ j → item_at (slots_in d section) k ≡ Some (Some x) → fate x ≡ stays)
      → pair_swaps fate name d (slot_of section i, slot_of section j) ≡ section_swaps fate section name 0 (slots_in d section)
  pair_of_section d i j lt still =
      ap (λ (p : Option Slot). swap_at i p ++ swaps_at_slot fate name d (slot_of section j)) (slot_is d section i)
      ∙ ap (λ (p : Option Slot). swap_at i (item_at (slots_in d section) i) ++ swap_at j p) (slot_is d section j)
      ∙ ap (λ (k : ℕ). swap_at k (item_at (slots_in d section) i) ++ swap_at j (item_at (slots_in d section) j)) (let e : i ≡ 0 + i = omega arith in e)
      ∙ ap (λ (k : ℕ). swap_at (0 + i) (item_at (slots_in d section) i) ++ swap_at k (item_at (slots_in d section) j)) (let e : j ≡ 0 + j = omega arith in e)
      ∙ sym (two_swaps 0 i j (slots_in d section) lt still)

-- ---- one key, one slot

full_all : (P : List ℕ → Type 0) (ps : List Slot) (i : ℕ) (x : List ℕ) → All P (full ps) → item_at ps i ≡ Some (Some x) → P x
full_all P [] i x all at = absurd cc
full_all P (None ∷ ps) zero x all at = absurd cc
full_all P (None ∷ ps) (suc i) x all at = full_all P ps i x all at
full_all P (Some y ∷ ps) zero x all at = let same : y ≡ x = cc in subst P same (All-head P y (full ps) all)
full_all P (Some y ∷ ps) (suc i) x all at = full_all P ps i x (All-tail P y (full ps) all) at

apart_keys : (ps : List Slot) (i j : ℕ) (a b : List ℕ) → AllPairs (λ (k l : Key). k ≢ l) (map key_of (full ps)) → i < j
    → item_at ps i ≡ Some (Some a) → item_at ps j ≡ Some (Some b) → key_of a ≢ key_of b
apart_keys [] i j a b distinct lt at_i at_j = absurd cc
apart_keys (p ∷ ps) i zero a b distinct lt at_i at_j = absurd (omega arith)
apart_keys (None ∷ ps) zero (suc j) a b distinct lt at_i at_j = absurd cc
apart_keys (None ∷ ps) (suc i) (suc j) a b distinct lt at_i at_j = apart_keys ps i j a b distinct (omega arith) at_i at_j
apart_keys (Some x ∷ ps) zero (suc j) a b distinct lt at_i at_j =
    let same : x ≡ a = cc in
    let other : key_of x ≢ key_of b =
    full_all (λ y. key_of x ≢ key_of y) ps j b
    (all_map (λ k. key_of x ≢ k) key_of (full ps) (pairs_head (λ (k l : Key). k ≢ l) (key_of x) (map key_of (full ps)) distinct)) at_j in
    subst (λ (y : List ℕ). key_of y ≢ key_of b) same other
apart_keys (Some x ∷ ps) (suc i) (suc j) a b distinct lt at_i at_j =
    apart_keys ps i j a b (pairs_tail (λ (k l : Key). k ≢ l) (key_of x) (map key_of (full ps)) distinct) (omega arith) at_i at_j

pub one_slot : (ps : List Slot) (i j : ℕ) (a b : List ℕ) → AllPairs (λ (k l : Key). k ≢ l) (map key_of (full ps))
    → item_at ps i ≡ Some (Some a) → item_at ps j ≡ Some (Some b) → key_of a ≡ key_of b → i ≡ j
one_slot ps i j a b distinct at_i at_j same = ⊎_elim
    (λ less. absurd (apart_keys ps i j a b distinct less at_i at_j same))
    (λ ge. ⊎_elim (λ less. absurd (apart_keys ps j i b a distinct less at_j at_i (sym same))) (λ le. omega arith) (cases_lt j i))
    (cases_lt i j)

-- ---- one name, one number

one_number : (name : Section) (d : Slots) (i j : ℕ) (s t : SectionSlots) → AllPairs IsBefore (heads_of (lists_of d)) → item_at d i ≡ Some s
    → item_at d j ≡ Some t → is_head_of name s.area ≡ true → is_head_of name t.area ≡ true → i ≡ j
one_number name [] i j s t order at_i at_j has_s has_t = absurd cc
one_number name (x ∷ xs) zero zero s t order at_i at_j has_s has_t = refl
one_number name (x ∷ xs) zero (suc j) s t order at_i at_j has_s has_t =
    let same : x ≡ s = cc in
    let before = before_item x.area xs j t (pairs_head IsBefore x.area (heads_of (lists_of xs)) order) at_j in
    let none = head_before name x.area t.area has_t before in
    absurd (let e : false ≡ true = sym none ∙ ap (λ (u : SectionSlots). is_head_of name u.area) same ∙ has_s in cc)
one_number name (x ∷ xs) (suc i) zero s t order at_i at_j has_s has_t =
    let same : x ≡ t = cc in
    let before = before_item x.area xs i s (pairs_head IsBefore x.area (heads_of (lists_of xs)) order) at_i in
    let none = head_before name x.area s.area has_s before in
    absurd (let e : false ≡ true = sym none ∙ ap (λ (u : SectionSlots). is_head_of name u.area) same ∙ has_t in cc)
one_number name (x ∷ xs) (suc i) (suc j) s t order at_i at_j has_s has_t =
    ap suc (one_number name xs i j s t (pairs_tail IsBefore x.area (heads_of (lists_of xs)) order) at_i at_j has_s has_t)

-- ---- the links between two routers

other_stays : (router neighbor : RouterId) (x : List ℕ) → key_of x ≢ router_key router → key_of x ≢ router_key neighbor
    → link_fate router neighbor x ≡ stays
other_stays router neighbor x one two =
    let there : Fate = cut (without_links (leads_to neighbor) x) in
    let back : Fate = cut (without_links (leads_to router) x) in
    ap (λ (b : Bool). if b then there else if has_key (router_key neighbor) x then back else stays) (other_key (router_key router) x one)
    ∙ ap (λ (b : Bool). if b then back else stays) (other_key (router_key neighbor) x two)

all_item : {X : Type 0} (P : X → Type 0) (xs : List X) (i : ℕ) (x : X) → All P xs → item_at xs i ≡ Some x → P x
all_item {X} P [] i x all at = absurd cc
all_item {X} P (y ∷ ys) zero x all at = let same : y ≡ x = cc in subst P same (All-head P y ys all)
all_item {X} P (y ∷ ys) (suc i) x all at = all_item P ys i x (All-tail P y ys all) at

same_lsa : (p : Option Slot) (a b : List ℕ) → p ≡ Some (Some a) → p ≡ Some (Some b) → a ≡ b
same_lsa p a b is_a is_b = let both : (let q : Option Slot = Some (Some a) in q) ≡ Some (Some b) = sym is_a ∙ is_b in cc

below : (i j : ℕ) → i ≤ j → i ≢ j → i < j
below i j le differ = ⊎_elim (λ less. less) (λ ge. absurd (differ (let e : i ≡ j = omega arith in e))) (cases_lt i j)

above : (i j : ℕ) → nat_le i j ≡ false → j < i
above i j is = ⊎_elim
    (λ less. less)
    (λ ge. absurd (let e : false ≡ true = sym is ∙ le-leb i j (omega arith) in cc))
    (cases_lt j i)

module _ (d : Slots) (area : AreaId) (router neighbor : RouterId) (slot second : SlotId) (lsa other : List ℕ) (sound : IsDatabase (lists_of d))
    (apart : (router.0 == neighbor.0) ≡ false) (at : IsFirstLsa d (Area area) (has_key (router_key router)) slot lsa)
    (at_second : IsFirstLsa d (Area area) (has_key (router_key neighbor)) second other) where
  one : HasSection d (Area area) slot.section
  one = has_section d (Area area) slot.section at.named (there_too d slot.section at.named.exists)

  two : HasSection d (Area area) second.section
  two = has_section d (Area area) second.section at_second.named (there_too d second.section at_second.named.exists)

  same_section : second.section ≡ slot.section
  same_section = one_number (Area area) d second.section slot.section two.section one.section sound.heads.order two.at one.at two.named one.named

  abbrev slots : List Slot
  slots = slots_in d slot.section

  distinct : AllPairs (λ (k l : Key). k ≢ l) (map key_of (full slots))
  distinct =
      let section_sound = all_item IsSection (lists_of d) slot.section (section_of one.section) sound.sections (list_item d slot.section one.section one.at) in
      subst (λ (o : Option SectionSlots). AllPairs (λ (k l : Key). k ≢ l) (map key_of (full (slots_or_none o)))) (sym one.at) section_sound.keys.distinct

  first_held : item_at slots slot.index ≡ Some (Some lsa)
  first_held = sym (slot_is d slot.section slot.index) ∙ at.held

  second_held : item_at slots second.index ≡ Some (Some other)
  second_held =
      sym (slot_is d slot.section second.index) ∙ ap (λ (s : ℕ). slot_at d (slot_of s second.index)) (sym same_section) ∙ at_second.held

  first_key : key_of lsa ≡ router_key router
  first_key = key_is d (Area area) (router_key router) slot lsa at

  second_key : key_of other ≡ router_key neighbor
  second_key = key_is d (Area area) (router_key neighbor) second other at_second

  still : (k : ℕ) (x : List ℕ) → k ≢ slot.index → k ≢ second.index → item_at slots k ≡ Some (Some x) → link_fate router neighbor x ≡ stays
  still k x not_first not_second there =
      other_stays router neighbor x (λ e. not_first (one_slot slots k slot.index x lsa distinct there first_held (e ∙ sym first_key)))
      (λ e. not_second (one_slot slots k second.index x other distinct there second_held (e ∙ sym second_key)))

  differ : slot.index ≢ second.index
  differ e =
      let same : lsa ≡ other = same_lsa (item_at slots second.index) lsa other (ap (item_at slots) (sym e) ∙ first_held) second_held in
      let keys : router_key router ≡ router_key neighbor = sym first_key ∙ ap key_of same ∙ second_key in
      let routers : (router.0 == neighbor.0) ≡ true = eq-eqb router.0 neighbor.0 (ap (λ (k : Key). k.adv.0) keys) in
      absurd (let no' : false ≡ true = sym apart ∙ routers in cc)

  its_slot : slot_of slot.section second.index ≡ second
  its_slot = ap (λ (s : ℕ). slot_of s second.index) (sym same_section)

  pub links_of_pair : pair_swaps (link_fate router neighbor) (Area area) d (in_order slot second)
      ≡ section_swaps (link_fate router neighbor) slot.section (Area area) 0 slots
  links_of_pair = by_order (nat_le slot.index second.index) refl where
    by_order : (b : Bool) → nat_le slot.index second.index ≡ b
        → pair_swaps (link_fate router neighbor) (Area area) d (if b then (slot, second) else (second, slot))
        ≡ section_swaps (link_fate router neighbor) slot.section (Area area) 0 slots
    by_order true is =
        let le : slot.index ≤ second.index = leb-true slot.index second.index is in
        let less : slot.index < second.index = below slot.index second.index le differ in
        ap (λ (p : SlotId). pair_swaps (link_fate router neighbor) (Area area) d (slot, p)) (sym its_slot)
        ∙ pair_of_section (link_fate router neighbor) slot.section (Area area) d slot.index second.index less still
    by_order false is =
        let less : second.index < slot.index = above slot.index second.index is in
        ap (λ (p : SlotId). pair_swaps (link_fate router neighbor) (Area area) d (p, slot)) (sym its_slot)
        ∙ pair_of_section (link_fate router neighbor) slot.section (Area area) d second.index slot.index less
        (λ k x not_second not_first there. still k x not_first not_second there)
