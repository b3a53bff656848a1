-- The first item that passes, looked for from the front.
use Rattle.std.proofs.Common.{◌≡◌, ℕ, zero, suc, ◌<◌, Bool, true, false, List, [], ◌∷◌, length, drop, get_or, map, Option, Some, None, refl, sym}
use Rattle.std.proofs.Common.{ap, ◌∙◌, subst, arith, rules, cond}
use Rattle.std.specs.Prelude.{IsSome}
use Rattle.std.specs.List.{find}
use Rattle.std.proofs.lemmas.List.{length-map}
use Rattle.lsa_codec.specs.declared.key.Key.{Key}
use Rattle.lsdb.specs.declared.database.SectionOf.{SectionOf}
use Rattle.lsdb.specs.Lists.{SectionLsas, Lists, has_key}
use Rattle.lsdb.specs.Slots.{Slot, item_at, full, section_of, lists_of, lsas_in, IsFirstSlot}
use Rattle.lsdb.specs.steps.OneSlot.{IsFirstIndex}
use Rattle.lsdb.specs.steps.View.{section_slots_of, slots_of}

-- item i of a list, and what follows it
pub record Turn {X : Type 0} (xs : List X) (i j : ℕ) (x : X) : Type 0 where
  pub here : item_at xs i ≡ Some x
  pub rest : drop i xs ≡ x ∷ drop j xs

pub turn : {X : Type 0} (xs : List X) (i j : ℕ) (x : X) → i < length xs → j ≡ suc i → x ≡ get_or xs i x → Turn xs i j x
turn [] i j x lt e h = absurd (omega arith)
turn (y ∷ ys) zero j x lt e h = record { here = ap Some (sym h); rest = ap (λ z. z ∷ ys) (sym h) ∙ ap (λ k. x ∷ drop k (y ∷ ys)) (sym e) }
turn (y ∷ ys) (suc i) j x lt e h =
    let next = turn ys i (suc i) x (omega arith) refl h in
    record { here = next.here; rest = next.rest ∙ ap (λ k. x ∷ drop k (y ∷ ys)) (sym e) }

pub turn_map : {X Y : Type 0} (f : X → Y) (xs : List X) (i j : ℕ) (x : X) → i < length xs → j ≡ suc i
    → x ≡ get_or xs i x → Turn (map f xs) i j (f x)
turn_map f [] i j x lt e h = absurd (omega arith)
turn_map f (y ∷ ys) zero j x lt e h =
    record { here = ap (λ z. Some (f z)) (sym h); rest = ap (λ z. f z ∷ map f ys) (sym h) ∙ ap (λ k. f x ∷ drop k (map f (y ∷ ys))) (sym e) }
turn_map f (y ∷ ys) (suc i) j x lt e h =
    let next = turn_map f ys i (suc i) x (omega arith) refl h in
    record { here = next.here; rest = next.rest ∙ ap (λ k. f x ∷ drop k (map f (y ∷ ys))) (sym e) }

-- ---- in any list

some_found : {X : Type 0} (o : Option X) (x : X) → o ≡ Some x → IsSome o
some_found None x e = absurd cc
some_found (Some y) x e = refl

pub find_hit : {X : Type 0} (p : X → Bool) (xs rest : List X) (i : ℕ) (x : X) → item_at xs i ≡ Some x
    → drop i xs ≡ x ∷ rest → p x ≡ true → find p (drop i xs) ≡ find p xs
    → (item_at xs i ≡ find p xs) × IsSome (item_at xs i)
find_hit p xs rest i x here front pass same =
    let found : find p xs ≡ Some x = sym same ∙ ap (find p) front ∙ ap (λ b. cond b (Some x) (find p rest)) pass in
    (here ∙ sym found, some_found (item_at xs i) x here)

pub find_miss : {X : Type 0} (p : X → Bool) (xs rest : List X) (i : ℕ) (x : X) → drop i xs ≡ x ∷ rest
    → p x ≡ false → find p (drop i xs) ≡ find p xs → find p rest ≡ find p xs
find_miss p xs rest i x front fail same = sym (ap (find p) front ∙ ap (λ b. cond b (Some x) (find p rest)) fail) ∙ same

-- ---- the sections in memory

abbrev shown : {A : Type 0} → SectionOf A → SectionLsas
shown {A} s = section_of (section_slots_of s)

shown_all : {A : Type 0} → (ss : List (SectionOf A)) → lists_of (slots_of ss) ≡ map shown ss
shown_all {A} [] = refl
shown_all {A} (s ∷ ss) = ap (λ (xs : Lists). shown s ∷ xs) (shown_all ss)

pub section_turn : {A : Type 0} → (ss : List (SectionOf A)) (i j : ℕ) (s : SectionOf A) → i < length ss
    → j ≡ suc i → s ≡ get_or ss i s → Turn (lists_of (slots_of ss)) i j (shown s)
section_turn {A} ss i j s lt e h = subst (λ (xs : Lists). Turn xs i j (shown s)) (sym (shown_all ss)) (turn_map shown ss i j s lt e h)

pub section_count : {A : Type 0} → (ss : List (SectionOf A)) → length (lists_of (slots_of ss)) ≡ length ss
section_count {A} ss = ap length (shown_all ss) ∙ length-map ss shown

-- what is found in the slots of a section is found in the database
pub found_in : {A : Type 0}
    → (ss : List (SectionOf A)) (section index : ℕ) (s : SectionOf A) (slots : List Slot) (key : Key)
    → IsSome (item_at (lists_of (slots_of ss)) section) → s ≡ get_or ss section s → slots ≡ s.slots
    → IsFirstIndex slots (has_key key) index
    → IsFirstSlot (slots_of ss) section (has_key key) (record { section = section; index = index })
found_in {A} [] section index s slots key some h e found = absurd (search rules)
found_in {A} (t ∷ ss) zero index s slots key some h e found =
    let same : slots ≡ t.slots = e ∙ ap (λ (x : SectionOf A). x.slots) h in
    let at : IsFirstIndex t.slots (has_key key) index = subst (λ (ps : List Slot). IsFirstIndex ps (has_key key) index) same found in
    record { same = refl; held = at.held; found = at.found }
found_in {A} (t ∷ ss) (suc section) index s slots key some h e found =
    let at = found_in ss section index s slots key some h e found in
    record { same = refl; held = at.held; found = at.found }

pub none_in : {A : Type 0}
    → (ss : List (SectionOf A)) (section : ℕ) (s : SectionOf A) (slots : List Slot) (key : Key)
    → IsSome (item_at (lists_of (slots_of ss)) section) → s ≡ get_or ss section s → slots ≡ s.slots
    → find (has_key key) (full slots) ≡ None → find (has_key key) (lsas_in (slots_of ss) section) ≡ None
none_in {A} [] section s slots key some h e found = absurd (search rules)
none_in {A} (t ∷ ss) zero s slots key some h e found =
    let same : slots ≡ t.slots = e ∙ ap (λ (x : SectionOf A). x.slots) h in
    subst (λ (ps : List Slot). find (has_key key) (full ps) ≡ None) same found
none_in {A} (t ∷ ss) (suc section) s slots key some h e found = none_in ss section s slots key some h e found
