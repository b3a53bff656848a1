-- A slot takes an LSA that may stand for the one there, or is emptied: the slots still make a database.
use Rattle.std.proofs.Common.{◌≡◌, ◌≢◌, ℕ, zero, suc, ◌+◌, ◌≤◌, true, List, [], ◌∷◌, ◌++◌, length, map, Option, Some, None, refl, sym, ap, ◌∙◌, subst, arith}
use Rattle.std.specs.Prelude.{All}
use Rattle.std.specs.List.{cons_option, sum_by}
use Rattle.std.proofs.lemmas.List.Sums.{sum_by-cons, sum_by-append}
use Rattle.lsa_codec.specs.declared.key.Key.{Key}
use Rattle.lsa_codec.specs.Key.{key_of}
use Rattle.lsa_codec.specs.Accepted.{IsAccepted}
use Rattle.lsdb.specs.declared.slot.SlotId.{SlotId}
use Rattle.lsdb.specs.Limits.{longest_dump}
use Rattle.lsdb.specs.Lists.{AreaHead, SectionLsas, Lists, AreKeys, IsSection, AreHeads, is_in_scope, IsDatabase, lsas_size, section_size, size, heads_of}
use Rattle.lsdb.specs.Slots.{Slot, Slots, SectionSlots, item_at, put_slot, put, slot_in, slot_at, full, section_of, lists_of}
use Rattle.lsdb.specs.steps.OneSlot.{IsPutSafe, slot_size}
use Rattle.lsdb.proofs.Middle.{all_mid, all_without, pairs_without, map_mid, map_two, length_mid}

-- ---- the lists around one slot

pub record Around (ps : List Slot) (i : ℕ) (old new : Slot) : Type 0 where
  pub front : List (List ℕ)
  pub back : List (List ℕ)
  pub before : full ps ≡ front ++ cons_option old back
  pub after : full (put_slot new ps i) ≡ front ++ cons_option new back

pub full-cons : (p : Slot) (ps : List Slot) → full (p ∷ ps) ≡ cons_option p (full ps)
full-cons None ps = refl
full-cons (Some x) ps = refl

pub around : (ps : List Slot) (i : ℕ) (old new : Slot) → item_at ps i ≡ Some old → Around ps i old new
around [] i old new h = absurd cc
around (p ∷ ps) zero old new h =
    let same : p ≡ old = cc in
    record { front = []; back = full ps; before = full-cons p ps ∙ ap (λ (q : Slot). cons_option q (full ps)) same; after = full-cons new ps }
around (None ∷ ps) (suc i) old new h =
    let rest = around ps i old new h in
    record { front = rest.front; back = rest.back; before = rest.before; after = rest.after }
around (Some x ∷ ps) (suc i) old new h =
    let rest = around ps i old new h in
    record {
      front = x ∷ rest.front;
      back = rest.back;
      before = ap (λ (xs : List (List ℕ)). x ∷ xs) rest.before;
      after =
          ap (λ (xs : List (List ℕ)). x ∷ xs) rest.after;
    }

abbrev pub section_with : Option AreaHead → List (List ℕ) → SectionLsas
section_with area lsas = record { area = area; lsas = lsas }

-- the whole database around one slot
pub record Between (d : Slots) (slot : SlotId) (old new : Slot) : Type 0 where
  pub low : Lists
  pub high : Lists
  pub area : Option AreaHead
  pub front : List (List ℕ)
  pub back : List (List ℕ)
  pub before : lists_of d ≡ low ++ section_with area (front ++ cons_option old back) ∷ high
  pub after : lists_of (put d slot new) ≡ low ++ section_with area (front ++ cons_option new back) ∷ high
  pub count : slot.section ≡ length low
  pub here : item_at (lists_of d) slot.section ≡ Some (section_with area (front ++ cons_option old back))

abbrev written : Slot → ℕ → SectionSlots → SectionSlots
written v i s = record { area = s.area; slots = put_slot v s.slots i }

abbrev is_some : SectionLsas → Option SectionLsas
is_some s = Some s

between_at : (d : Slots) (section i : ℕ) (old new : Slot) → slot_in (item_at d section) i ≡ Some old
    → Between d (record { section = section; index = i }) old new
between_at [] section i old new h = absurd cc
between_at (s ∷ ss) zero i old new h =
    let a = around s.slots i old new h in
    record {
      low = [];
      high = lists_of ss;
      area = s.area;
      front = a.front;
      back = a.back;
      before = ap (λ (xs : List (List ℕ)). section_with s.area xs ∷ lists_of ss) a.before;
      after = ap (λ (xs : List (List ℕ)). section_with s.area xs ∷ lists_of ss) a.after;
      count = refl;
      here = ap (λ (xs : List (List ℕ)). is_some (section_with s.area xs)) a.before;
    }
between_at (s ∷ ss) (suc section) i old new h =
    let rest = between_at ss section i old new h in
    record {
      low = section_of s ∷ rest.low;
      high = rest.high;
      area = rest.area;
      front = rest.front;
      back = rest.back;
      before = ap (λ (xs : Lists). section_of s ∷ xs) rest.before;
      after = ap (λ (xs : Lists). section_of s ∷ xs) rest.after;
      count = ap suc rest.count;
      here = rest.here;
    }

pub between : (d : Slots) (slot : SlotId) (old new : Slot) → slot_at d slot ≡ Some old → Between d slot old new
between d slot old new h = between_at d slot.section slot.index old new h

-- ---- one section

keys_rewritten : (front back : List (List ℕ)) (x y : List ℕ) → key_of y ≡ key_of x
    → map key_of (front ++ y ∷ back) ≡ map key_of (front ++ x ∷ back)
keys_rewritten front back x y e = map_mid key_of front back y ∙ ap (λ (k : Key). map key_of front ++ k ∷ map key_of back) e ∙ sym (map_mid key_of front back x)

section_rewritten : (area : Option AreaHead) (front back : List (List ℕ)) (x y : List ℕ) → IsAccepted y
    → key_of y ≡ key_of x → IsSection (section_with area (front ++ x ∷ back))
    → IsSection (section_with area (front ++ y ∷ back))
section_rewritten area front back x y accepted key s = record {
  accepted = all_mid IsAccepted front back x y (λ _. accepted) s.accepted;
  keys = subst (AreKeys area) (sym (keys_rewritten front back x y key)) s.keys;
}

keys_removed : (area : Option AreaHead) (front back : List Key) (k : Key) → AreKeys area (front ++ k ∷ back) → AreKeys area (front ++ back)
keys_removed area front back k h = record {
  few = omega (arith, length_mid front back k, h.few);
  scope = all_without (λ key. is_in_scope area key ≡ true) front back k h.scope;
  distinct = pairs_without (λ a b. a ≢ b) front back k h.distinct;
}

section_emptied : (area : Option AreaHead) (front back : List (List ℕ)) (x : List ℕ)
    → IsSection (section_with area (front ++ x ∷ back)) → IsSection (section_with area (front ++ back))
section_emptied area front back x s = record {
  accepted = all_without IsAccepted front back x s.accepted;
  keys =
      subst (AreKeys area) (sym (map_two key_of front back))
      (keys_removed area (map key_of front) (map key_of back) (key_of x) (subst (AreKeys area) (map_mid key_of front back x) s.keys));
}

section_safe : (area : Option AreaHead) (front back : List (List ℕ)) (old new : Slot) → IsPutSafe old new
    → IsSection (section_with area (front ++ cons_option old back))
    → IsSection (section_with area (front ++ cons_option new back))
section_safe area front back (Some x) (Some y) safe s = section_rewritten area front back x y safe.accepted safe.key s
section_safe area front back (Some x) None safe s = section_emptied area front back x s
section_safe area front back None None safe s = s
section_safe area front back None (Some y) safe s = absurd safe

-- ---- sizes

pub cons_size : (v : Slot) (back : List (List ℕ)) → lsas_size (cons_option v back) ≡ slot_size v + lsas_size back
cons_size None back = omega arith
cons_size (Some x) back = sum_by-cons length x back

pub lsas_around : (front back : List (List ℕ)) (v : Slot)
    → lsas_size (front ++ cons_option v back) ≡ slot_size v + (lsas_size front + lsas_size back)
lsas_around front back v = omega (arith, sum_by-append length front (cons_option v back), cons_size v back)

pub size_around : (low high : Lists) (s : SectionLsas)
    → sum_by section_size (low ++ s ∷ high) ≡ section_size s + (sum_by section_size low + sum_by section_size high)
size_around low high s = omega (arith, sum_by-append section_size low (s ∷ high), sum_by-cons section_size s high)

-- a write to one slot changes the size by what it takes and leaves
pub size-put : (d : Slots) (slot : SlotId) (old new : Slot) → slot_at d slot ≡ Some old
    → size (lists_of (put d slot new)) + slot_size old ≡ size (lists_of d) + slot_size new
size-put d slot old new h =
    let w = between d slot old new h in
    let s = section_with w.area (w.front ++ cons_option new w.back) in
    let t = section_with w.area (w.front ++ cons_option old w.back) in
    let one = lsas_around w.front w.back old in
    let two = lsas_around w.front w.back new in
    let new_size = size_around w.low w.high s in
    let old_size = size_around w.low w.high t in
    rw (w.before, w.after) (omega (arith, one, two, new_size, old_size))

-- ---- the database

pub heads-put : (d : Slots) (slot : SlotId) (old new : Slot) → slot_at d slot ≡ Some old
    → heads_of (lists_of (put d slot new)) ≡ heads_of (lists_of d)
heads-put d slot old new h =
    let w = between d slot old new h in
    let head : SectionLsas → Option AreaHead = λ s. s.area in
    ap heads_of w.after ∙ map_mid head w.low w.high (section_with w.area (w.front ++ cons_option new w.back))
    ∙ sym (ap heads_of w.before ∙ map_mid head w.low w.high (section_with w.area (w.front ++ cons_option old w.back)))

smaller : (old new : Slot) → IsPutSafe old new → slot_size new ≤ slot_size old
smaller (Some x) (Some y) safe = safe.size
smaller (Some x) None safe = omega arith
smaller None None safe = omega arith
smaller None (Some y) safe = absurd safe

-- a slot that is emptied, or takes an LSA that may stand for the one there, leaves a database
pub put_safe : (d : Slots) (slot : SlotId) (old new : Slot) → slot_at d slot ≡ Some old → IsPutSafe old new
    → IsDatabase (lists_of d) → IsDatabase (lists_of (put d slot new))
put_safe d slot old new h safe db =
    let w = between d slot old new h in
    let s = section_with w.area (w.front ++ cons_option old w.back) in
    let t = section_with w.area (w.front ++ cons_option new w.back) in
    let sections : All IsSection (w.low ++ s ∷ w.high) = subst (All IsSection) w.before db.sections in
    record {
      heads = subst AreHeads (sym (heads-put d slot old new h)) db.heads;
      sections = subst (All IsSection) (sym w.after) (all_mid IsSection w.low w.high s t (section_safe w.area w.front w.back old new safe) sections);
      small = omega (arith, size-put d slot old new h, smaller old new safe, db.small);
    }

-- a slot takes an LSA of the same key that is longer, where the dump has room for it
pub extended_safe : (d : Slots) (slot : SlotId) (x y : List ℕ) → slot_at d slot ≡ Some (Some x)
    → IsAccepted y → key_of y ≡ key_of x → size (lists_of d) + length y ≤ longest_dump + length x
    → IsDatabase (lists_of d) → IsDatabase (lists_of (put d slot (Some y)))
extended_safe d slot x y h accepted key room db =
    let w = between d slot (Some x) (Some y) h in
    let s = section_with w.area (w.front ++ x ∷ w.back) in
    let t = section_with w.area (w.front ++ y ∷ w.back) in
    let sections : All IsSection (w.low ++ s ∷ w.high) = subst (All IsSection) w.before db.sections in
    record {
      heads = subst AreHeads (sym (heads-put d slot (Some x) (Some y) h)) db.heads;
      sections = subst (All IsSection) (sym w.after) (all_mid IsSection w.low w.high s t (section_rewritten w.area w.front w.back x y accepted key) sections);
      small = omega (arith, size-put d slot (Some x) (Some y) h, room);
    }
