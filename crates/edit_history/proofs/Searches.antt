-- Searches: for an LSA of a section, and for a router in any section.
use Rattle.std.proofs.Common.{◌≡◌, ℕ, zero, suc, ◌<◌, ◌≤◌, Bool, true, false, ◌||◌, List, [], ◌∷◌, length, drop, Option, Some, None, refl, sym, ap}
use Rattle.std.proofs.Common.{◌∙◌, subst, arith, rules, cond}
use Rattle.std.specs.Prelude.{IsSome, is_some, MatchOption}
use Rattle.std.specs.List.{find, list_any}
use Rattle.std.proofs.lemmas.List.{drop_all}
use Rattle.lsa_codec.specs.Key.{router_key}
use Rattle.lsa_codec.specs.declared.address.RouterId.{RouterId}
use Rattle.lsa_codec.specs.declared.key.Key.{Key}
use Rattle.lsdb.specs.declared.section.Section.{Section}
use Rattle.lsdb.specs.declared.slot.SlotId.{SlotId}
use Rattle.lsdb.specs.Lists.{SectionLsas, Lists, has_key, lsas_of}
use Rattle.lsdb.specs.Slots.{Slot, Slots, SectionSlots, item_at, slot_at, slot_in, full, lists_of, lsas_in, lsas_or_none, slots_in}
use Rattle.lsdb.specs.Slots.{slots_or_none, IsFirstSlot, IsSlotOf}
use Rattle.edit_history.specs.Effect.{is_in_section}
use Rattle.edit_history.specs.steps.Plans.{slot_of}

-- ---- any and first

pub any_none : {X : Type 0} (p : X → Bool) (xs : List X) → find p xs ≡ None → list_any p xs ≡ false
any_none p [] e = refl
any_none p (x ∷ xs) e = by_test (p x) (any_none p xs) e where
  by_test : (b : Bool) → (find p xs ≡ None → list_any p xs ≡ false) → cond b (Some x) (find p xs) ≡ None → (b || list_any p xs) ≡ false
  by_test true more e = absurd cc
  by_test false more e = more e

pub any_some : {X : Type 0} (p : X → Bool) (xs : List X) → IsSome (find p xs) → list_any p xs ≡ true
any_some p [] e = absurd (search rules)
any_some p (x ∷ xs) e = by_test (p x) (any_some p xs) e where
  by_test : (b : Bool) → (IsSome (find p xs) → list_any p xs ≡ true) → IsSome (cond b (Some x) (find p xs)) → (b || list_any p xs) ≡ true
  by_test true more e = refl
  by_test false more e = more e

pub none_found : {X : Type 0} (p : X → Bool) (xs : List X) → list_any p xs ≡ false → find p xs ≡ None
none_found p [] e = refl
none_found p (x ∷ xs) e = by_test (p x) (none_found p xs) e where
  by_test : (b : Bool) → (list_any p xs ≡ false → find p xs ≡ None) → (b || list_any p xs) ≡ false → cond b (Some x) (find p xs) ≡ None
  by_test true more e = absurd cc
  by_test false more e = more e

-- ---- the items of a list, one after another

-- item i of a list, and what follows it
pub record Here {X : Type 0} (xs : List X) (i j : ℕ) : Type 0 where
  pub item : X
  pub at : item_at xs i ≡ Some item
  pub rest : drop i xs ≡ item ∷ drop j xs

pub here : {X : Type 0} (xs : List X) (i j : ℕ) → i < length xs → j ≡ suc i → Here xs i j
here [] i j lt e = absurd (omega arith)
here (x ∷ xs) zero j lt e = record { item = x; at = refl; rest = ap (λ k. x ∷ drop k (x ∷ xs)) (sym e) }
here (x ∷ xs) (suc i) j lt e =
    let next = here xs i (suc i) (omega arith) refl in
    record { item = next.item; at = next.at; rest = next.rest ∙ ap (λ k. next.item ∷ drop k (x ∷ xs)) (sym e) }

pub exists_at : {X : Type 0} (xs : List X) (i : ℕ) → i < length xs → IsSome (item_at xs i)
exists_at [] i lt = absurd (omega arith)
exists_at (x ∷ xs) zero lt = refl
exists_at (x ∷ xs) (suc i) lt = exists_at xs i (omega arith)

pub lists_count : (d : Slots) → length (lists_of d) ≡ length d
lists_count [] = refl
lists_count (s ∷ ss) = ap suc (lists_count ss)

pub exists_in_lists : (d : Slots) (i : ℕ) → i < length d → IsSome (item_at (lists_of d) i)
exists_in_lists d i lt = exists_at (lists_of d) i (omega (arith, lists_count d))

-- ---- the slots of a section

pub lsas_full : (d : Slots) (section : ℕ) → lsas_in d section ≡ full (slots_in d section)
lsas_full [] section = refl
lsas_full (s ∷ ss) zero = refl
lsas_full (s ∷ ss) (suc section) = lsas_full ss section

pub there_too : (d : Slots) (section : ℕ) → IsSome (item_at (lists_of d) section) → IsSome (item_at d section)
there_too [] section some = absurd (search rules)
there_too (s ∷ ss) zero some = refl
there_too (s ∷ ss) (suc section) some = there_too ss section some

pub slot_there : (d : Slots) (section i : ℕ) (p : Slot) → item_at (slots_in d section) i ≡ Some p → slot_at d (slot_of section i) ≡ Some p
slot_there d section i p e = by_item (item_at d section) e where
  by_item : (o : Option SectionSlots) → item_at (slots_or_none o) i ≡ Some p → slot_in o i ≡ Some p
  by_item None e = absurd cc
  by_item (Some s) e = e

-- ---- a key

pub key_in : (d : Slots) (section : ℕ) (key named_key : Key) (o : Option SlotId) → key ≡ named_key
    → MatchOption o (find (has_key key) (lsas_in d section) ≡ None) (IsFirstSlot d section (has_key key))
    → is_some o ≡ list_any (has_key named_key) (lsas_in d section)
key_in d section key named_key None is m =
    let xs = lsas_in d section in
    sym (any_none (has_key named_key) xs (ap (λ (k : Key). find (has_key k) xs) (sym is) ∙ m))
key_in d section key named_key (Some slot) is m =
    let xs = lsas_in d section in
    sym (any_some (has_key named_key) xs (subst (λ (k : Key). IsSome (find (has_key k) xs)) is m.found))

pub key_placed : (d : Slots) (name : Section) (key : Key) (o : Option SlotId)
    → MatchOption o (find (has_key key) (lsas_of name (lists_of d)) ≡ None) (IsSlotOf d name key)
    → is_some o ≡ list_any (has_key key) (lsas_of name (lists_of d))
key_placed d name key None m = sym (any_none (has_key key) (lsas_of name (lists_of d)) m)
key_placed d name key (Some slot) m = sym (any_some (has_key key) (lsas_of name (lists_of d)) m.found)

-- ---- a router in any section

any_true : (router : RouterId) (s : SectionLsas) (rest : Lists) (b : Bool) → b ≡ is_in_section router s → b ≡ true
    → list_any (is_in_section router) (s ∷ rest) ≡ true
any_true router s rest b is yes' = ap (λ c. c || list_any (is_in_section router) rest) (sym is ∙ yes')

any_false : (router : RouterId) (s : SectionLsas) (rest : Lists) (b : Bool) → b ≡ is_in_section router s → b ≡ false
    → list_any (is_in_section router) (s ∷ rest) ≡ list_any (is_in_section router) rest
any_false router s rest b is no' = ap (λ c. c || list_any (is_in_section router) rest) (sym is ∙ no')

seen_in : (router : RouterId) (d : Slots) (i j : ℕ) (b : Bool) (h : Here (lists_of d) i j) → b ≡ list_any (has_key (router_key router)) (lsas_in d i)
    → b ≡ is_in_section router h.item
seen_in router d i j b h is = is ∙ ap (λ (o : Option SectionLsas). list_any (has_key (router_key router)) (lsas_or_none o)) h.at

pub router_here : (router : RouterId) (d : Slots) (i : ℕ) (b : Bool) → i < length d → b ≡ list_any (has_key (router_key router)) (lsas_in d i)
    → b ≡ true → list_any (is_in_section router) (drop i (lists_of d)) ≡ list_any (is_in_section router) (lists_of d)
    → list_any (is_in_section router) (lists_of d) ≡ true
router_here router d i b lt is pass same =
    let h = here (lists_of d) i (suc i) (omega (arith, lists_count d)) refl in
    sym same ∙ ap (list_any (is_in_section router)) h.rest
    ∙ any_true router h.item (drop (suc i) (lists_of d)) b (seen_in router d i (suc i) b h is) pass

pub router_not_here : (router : RouterId) (d : Slots) (i j : ℕ) (b : Bool) → i < length d → j ≡ suc i
    → b ≡ list_any (has_key (router_key router)) (lsas_in d i) → b ≡ false
    → list_any (is_in_section router) (drop i (lists_of d)) ≡ list_any (is_in_section router) (lists_of d)
    → list_any (is_in_section router) (drop j (lists_of d)) ≡ list_any (is_in_section router) (lists_of d)
router_not_here router d i j b lt e is fail same =
    let h = here (lists_of d) i j (omega (arith, lists_count d)) e in
    sym (ap (list_any (is_in_section router)) h.rest ∙ any_false router h.item (drop j (lists_of d)) b (seen_in router d i j b h is) fail) ∙ same

pub router_nowhere : (router : RouterId) (d : Slots) (i : ℕ) → length d ≤ i
    → list_any (is_in_section router) (drop i (lists_of d)) ≡ list_any (is_in_section router) (lists_of d)
    → list_any (is_in_section router) (lists_of d) ≡ false
router_nowhere router d i end same = sym same ∙ ap (list_any (is_in_section router)) (drop_all i (lists_of d) (omega (arith, lists_count d)))
