-- An LSA is added at the end of a section.
use Rattle.std.proofs.Common.{◌≡◌, ◌≢◌, ℕ, zero, suc, ◌+◌, ◌<◌, ◌≤◌, Bool, true, false, List, [], ◌∷◌, ◌++◌, length, map, Option, Some, None, refl}
use Rattle.std.proofs.Common.{sym, ap, ◌∙◌, subst, arith, cond, length-append}
use Rattle.std.specs.Prelude.{All, AllPairs}
use Rattle.std.specs.List.{find, sum_by}
use Rattle.std.proofs.lemmas.List.{length-map}
use Rattle.std.proofs.lemmas.List.Sums.{sum_by-cons, sum_by-append}
use Rattle.std.proofs.lemmas.List.Elements.{All-nil, All-cons, All-head, All-tail, All-append}
use Rattle.std.proofs.lemmas.List.Kept.{AllPairs-cons}
use Rattle.lsa_codec.specs.declared.key.Key.{Key}
use Rattle.lsa_codec.specs.Key.{key_of}
use Rattle.lsa_codec.specs.Accepted.{IsAccepted}
use Rattle.lsdb.specs.Limits.{longest_dump}
use Rattle.lsdb.specs.Lists.{AreaHead, SectionLsas, Lists, AreKeys, IsSection, AreHeads, IsDatabase, is_in_scope, limit_of, lsas_size, section_size}
use Rattle.lsdb.specs.Lists.{size, heads_of, has_key}
use Rattle.lsdb.specs.Slots.{Slot, Slots, update_at, item_at, put, put_slot, open_at, full, section_of, lists_of, slots_in}
use Rattle.lsdb.proofs.KeyLemmas.{own_key}
use Rattle.lsdb.proofs.Middle.{all_mid, map_mid, map_two}
use Rattle.lsdb.proofs.Dominated.{size_around}

-- the section with an LSA after its last one
abbrev pub with_lsa : List ℕ → SectionLsas → SectionLsas
with_lsa x s = record { area = s.area; lsas = s.lsas ++ x ∷ [] }

-- ---- the slots

full-new : (x : List ℕ) (ps : List Slot) (n : ℕ) → n ≡ length ps → full (put_slot (Some x) (ps ++ None ∷ []) n) ≡ full ps ++ x ∷ []
full-new x [] zero e = refl
full-new x [] (suc n) e = absurd (omega arith)
full-new x (p ∷ ps) zero e = absurd (omega arith)
full-new x (None ∷ ps) (suc n) e = full-new x ps n (omega arith)
full-new x (Some y ∷ ps) (suc n) e = ap (λ (ys : List (List ℕ)). y ∷ ys) (full-new x ps n (omega arith))

-- a slot that was opened at the end of a section, and then filled
pub lists-new : (x : List ℕ) (d : Slots) (section n : ℕ) → n ≡ length (slots_in d section)
    → lists_of (put (open_at d section) (record { section = section; index = n }) (Some x)) ≡ update_at (with_lsa x) (lists_of d) section
lists-new x [] section n e = refl
lists-new x (s ∷ ss) zero n e = ap (λ (ys : List (List ℕ)). record { area = s.area; lsas = ys } ∷ lists_of ss) (full-new x s.slots n e)
lists-new x (s ∷ ss) (suc section) n e = ap (λ (ts : Lists). section_of s ∷ ts) (lists-new x ss section n e)

-- ---- the section

no_key : (key : Key) (xs : List (List ℕ)) → find (has_key key) xs ≡ None → All (λ k. k ≢ key) (map key_of xs)
no_key key [] e = All-nil (λ k. k ≢ key)
no_key key (x ∷ xs) e = by_test (has_key key x) refl (no_key key xs) e where
  by_test : (b : Bool) → has_key key x ≡ b → (find (has_key key) xs ≡ None → All (λ k. k ≢ key) (map key_of xs))
      → cond b (Some x) (find (has_key key) xs) ≡ None → All (λ k. k ≢ key) (key_of x ∷ map key_of xs)
  by_test true is more e = absurd cc
  by_test false is more e = All-cons (λ k. k ≢ key) (key_of x) (map key_of xs) (apart is) (more e) where
    apart : has_key key x ≡ false → key_of x ≢ key
    apart is same =
        let yes' : has_key key x ≡ true = own_key key x same in
        absurd (let no' : true ≡ false = sym yes' ∙ is in cc)

pairs_push : (ks : List Key) (k : Key) → AllPairs (λ a b. a ≢ b) ks → All (λ j. j ≢ k) ks → AllPairs (λ a b. a ≢ b) (ks ++ k ∷ [])
pairs_push [] k pairs new = AllPairs-cons (λ a b. a ≢ b) k [] (All-nil (λ b. k ≢ b)) pairs
pairs_push (j ∷ ks) k pairs new =
    let head : All (λ b. j ≢ b) ks = λ i d within. pairs zero (suc i) d (omega arith) (omega arith) in
    let tail : AllPairs (λ a b. a ≢ b) ks = λ i m d lt within. pairs (suc i) (suc m) d (omega arith) (omega arith) in
    let last : All (λ b. j ≢ b) (k ∷ []) = All-cons (λ b. j ≢ b) k [] (All-head (λ j. j ≢ k) j ks new) (All-nil (λ b. j ≢ b)) in
    AllPairs-cons (λ a b. a ≢ b) j (ks ++ k ∷ []) (All-append (λ b. j ≢ b) ks (k ∷ []) head last) (pairs_push ks k tail (All-tail (λ j. j ≢ k) j ks new))

keys_added : (area : Option AreaHead) (ks : List Key) (k : Key) → AreKeys area ks → length ks < limit_of area
    → is_in_scope area k ≡ true → All (λ j. j ≢ k) ks → AreKeys area (ks ++ k ∷ [])
keys_added area ks k h room scope new = record {
  few = omega (arith, length-append ks (k ∷ []), room);
  scope =
      All-append (λ j. is_in_scope area j ≡ true) ks (k ∷ []) h.scope
      (All-cons (λ j. is_in_scope area j ≡ true) k [] scope (All-nil (λ j. is_in_scope area j ≡ true)));
  distinct = pairs_push ks k h.distinct new;
}

-- what an LSA must be to be added: nothing else in the section has its key, and the limits are kept
pub record Fits (db : Lists) (s : SectionLsas) (x : List ℕ) : Type 0 where
  pub accepted : IsAccepted x
  pub scope : is_in_scope s.area (key_of x) ≡ true
  pub new : find (has_key (key_of x)) s.lsas ≡ None
  pub room : length s.lsas < limit_of s.area
  pub small : size db + length x ≤ longest_dump

section_added : (db : Lists) (s : SectionLsas) (x : List ℕ) → Fits db s x → IsSection s → IsSection (with_lsa x s)
section_added db s x fits h = record {
  accepted = All-append IsAccepted s.lsas (x ∷ []) h.accepted (All-cons IsAccepted x [] fits.accepted (All-nil IsAccepted));
  keys = subst (AreKeys s.area) (sym (map_two key_of s.lsas (x ∷ [])))
      (keys_added s.area (map key_of s.lsas) (key_of x) h.keys
      (omega (arith, length-map s.lsas key_of, fits.room)) fits.scope (no_key (key_of x) s.lsas fits.new));
}

-- ---- the database

pub record Split (db : Lists) (i : ℕ) (s : SectionLsas) (f : SectionLsas → SectionLsas) : Type 0 where
  pub low : Lists
  pub high : Lists
  pub before : db ≡ low ++ s ∷ high
  pub after : update_at f db i ≡ low ++ f s ∷ high

pub split : (db : Lists) (i : ℕ) (s : SectionLsas) (f : SectionLsas → SectionLsas) → item_at db i ≡ Some s → Split db i s f
split [] i s f e = absurd cc
split (t ∷ ts) zero s f e =
    let same : t ≡ s = cc in record { low = []; high = ts; before = ap (λ (x : SectionLsas). x ∷ ts) same; after = ap (λ (x : SectionLsas). f x ∷ ts) same }
split (t ∷ ts) (suc i) s f e =
    let rest = split ts i s f e in
    record { low = t ∷ rest.low; high = rest.high; before = ap (λ (xs : Lists). t ∷ xs) rest.before; after = ap (λ (xs : Lists). t ∷ xs) rest.after }

one_size : (xs : List (List ℕ)) (x : List ℕ) → lsas_size (xs ++ x ∷ []) ≡ lsas_size xs + length x
one_size xs x = omega (arith, sum_by-append length xs (x ∷ []), sum_by-cons length x [])

abbrev head_in : SectionLsas → Option AreaHead
head_in s = s.area

pub added_safe : (db : Lists) (i : ℕ) (s : SectionLsas) (x : List ℕ) → item_at db i ≡ Some s → Fits db s x
    → IsDatabase db → IsDatabase (update_at (with_lsa x) db i)
added_safe db i s x at fits h =
    let w = split db i s (with_lsa x) at in
    let same_heads : heads_of (update_at (with_lsa x) db i) ≡ heads_of db =
    ap heads_of w.after ∙ map_mid head_in w.low w.high (with_lsa x s) ∙ sym (ap heads_of w.before ∙ map_mid head_in w.low w.high s) in
    let old_size = ap (sum_by section_size) w.before ∙ size_around w.low w.high s in
    let new_size = ap (sum_by section_size) w.after ∙ size_around w.low w.high (with_lsa x s) in
    record {
      heads = subst AreHeads (sym same_heads) h.heads;
      sections =
          subst (All IsSection) (sym w.after)
          (all_mid IsSection w.low w.high s (with_lsa x s) (section_added db s x fits) (subst (All IsSection) w.before h.sections));
      small = omega (arith, old_size, new_size, one_size s.lsas x, fits.small);
    }
