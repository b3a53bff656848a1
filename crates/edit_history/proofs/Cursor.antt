-- The records around the cursor, as they are read from the vector.
use Rattle.std.proofs.Common.{◌≡◌, ℕ, zero, suc, ◌-◌, ◌<◌, Bool, true, false, ◌||◌, List, [], ◌∷◌, ◌++◌, length, get_or, take, drop, Some, refl}
use Rattle.std.proofs.Common.{sym, ap, ◌∙◌, arith, inl, inr}
use Rattle.std.specs.Prelude.{min, reverse, slice_set}
use Rattle.std.specs.List.{list_any, slice_get}
use Rattle.std.proofs.Math.Seq.{take-append_seam}
use Rattle.std.proofs.lemmas.Bool.{cases_lt}
use Rattle.std.proofs.lemmas.List.{reverse-append, length-reverse, length-take, length-drop, take-append-drop, take_all}
use Rattle.std.proofs.lemmas.Option.{slice_get_within, get_or_from_slice_get}
use Rattle.edit_history.specs.Exchange.{RecordData}
use Rattle.edit_history.specs.Journal.{HistoryData}

take_next : (items : List RecordData) (i : ℕ) (r : RecordData) → i < length items → r ≡ get_or items i r → take (suc i) items ≡ take i items ++ r ∷ []
take_next [] i r lt h = absurd (omega arith)
take_next (x ∷ xs) zero r lt h = ap (λ (y : RecordData). y ∷ []) (sym h)
take_next (x ∷ xs) (suc i) r lt h = ap (λ (ys : List RecordData). x ∷ ys) (take_next xs i r (omega arith) h)

drop_next : (items : List RecordData) (i : ℕ) (r : RecordData) → i < length items → r ≡ get_or items i r → drop i items ≡ r ∷ drop (suc i) items
drop_next [] i r lt h = absurd (omega arith)
drop_next (x ∷ xs) zero r lt h = ap (λ (y : RecordData). y ∷ xs) (sym h)
drop_next (x ∷ xs) (suc i) r lt h = drop_next xs i r (omega arith) h

take_set : (items : List RecordData) (i : ℕ) (v : RecordData) → take i (slice_set items i v) ≡ take i items
take_set [] zero v = refl
take_set [] (suc i) v = refl
take_set (x ∷ xs) zero v = refl
take_set (x ∷ xs) (suc i) v = ap (λ (ys : List RecordData). x ∷ ys) (take_set xs i v)

drop_set : (items : List RecordData) (i : ℕ) (v : RecordData) → i < length items → drop i (slice_set items i v) ≡ v ∷ drop (suc i) items
drop_set [] i v lt = absurd (omega arith)
drop_set (x ∷ xs) zero v lt = refl
drop_set (x ∷ xs) (suc i) v lt = drop_set xs i v (omega arith)

take_set_next : (items : List RecordData) (i : ℕ) (v : RecordData) → i < length items → take (suc i) (slice_set items i v) ≡ take i items ++ v ∷ []
take_set_next [] i v lt = absurd (omega arith)
take_set_next (x ∷ xs) zero v lt = refl
take_set_next (x ∷ xs) (suc i) v lt = ap (λ (ys : List RecordData). x ∷ ys) (take_set_next xs i v (omega arith))

drop_set_next : (items : List RecordData) (i : ℕ) (v : RecordData) → drop (suc i) (slice_set items i v) ≡ drop (suc i) items
drop_set_next [] i v = refl
drop_set_next (x ∷ xs) zero v = refl
drop_set_next (x ∷ xs) (suc i) v = drop_set_next xs i v

-- what is read at a cursor
abbrev pub seen : List RecordData → ℕ → HistoryData
seen items cursor = record { past = reverse (take cursor items); future = drop cursor items }

past_is : (items : List RecordData) (i : ℕ) (r : RecordData) → i < length items → r ≡ get_or items i r
    → reverse (take (suc i) items) ≡ r ∷ reverse (take i items)
past_is items i r lt h = ap (reverse {A = RecordData}) (take_next items i r lt h) ∙ reverse-append (take i items) (r ∷ [])

-- around the cursor suc i
pub seen_after : (items : List RecordData) (i j : ℕ) (r : RecordData) → j ≡ suc i → i < length items → r ≡ get_or items i r
    → seen items j ≡ record { past = r ∷ reverse (take i items); future = drop j items }
seen_after items i j r is lt h =
    ap (λ (k : ℕ). let s : HistoryData = record { past = reverse (take k items); future = drop j items } in s) is
    ∙ ap (λ (past : List RecordData). let s : HistoryData = record { past = past; future = drop j items } in s) (past_is items i r lt h)

-- after a step back
pub seen_after_back : (items : List RecordData) (i j : ℕ) (v : RecordData) → j ≡ suc i → i < length items
    → seen (slice_set items i v) i ≡ record { past = reverse (take i items); future = v ∷ drop j items }
seen_after_back items i j v is lt =
    ap (λ (front : List RecordData). let s : HistoryData = record { past = reverse front; future = drop i (slice_set items i v) } in s)
    (take_set items i v)
    ∙ ap (λ (future : List RecordData). let s : HistoryData = record { past = reverse (take i items); future = future } in s)
    (drop_set items i v lt ∙ ap (λ (k : ℕ). v ∷ drop k items) (sym is))

-- around the cursor i, ahead
pub seen_ahead : (items : List RecordData) (i : ℕ) (r : RecordData) → i < length items → r ≡ get_or items i r
    → seen items i ≡ record { past = reverse (take i items); future = r ∷ drop (suc i) items }
seen_ahead items i r lt h =
    ap (λ (future : List RecordData). let s : HistoryData = record { past = reverse (take i items); future = future } in s) (drop_next items i r lt h)

-- after a step on
pub seen_after_on : (items : List RecordData) (i j : ℕ) (v : RecordData) → j ≡ suc i → i < length items
    → seen (slice_set items i v) j ≡ record { past = v ∷ reverse (take i items); future = drop (suc i) items }
seen_after_on items i j v is lt =
    ap (λ (k : ℕ). seen (slice_set items i v) k) is
    ∙ ap (λ (front : List RecordData). let s : HistoryData = record { past = reverse front; future = drop (suc i) (slice_set items i v) } in s)
    (take_set_next items i v lt)
    ∙ ap (λ (past : List RecordData). let s : HistoryData = record { past = past; future = drop (suc i) (slice_set items i v) } in s)
    (reverse-append (take i items) (v ∷ []))
    ∙ ap (λ (future : List RecordData). let s : HistoryData = record { past = v ∷ reverse (take i items); future = future } in s)
    (drop_set_next items i v)

-- where there is a past, and a future
pub past_len : (items : List RecordData) (j : ℕ) (h : HistoryData) → seen items j ≡ h → 0 < length h.past → 0 < j
past_len items j h view some =
    let e : length h.past ≡ length (take j items) = ap (λ (k : HistoryData). length k.past) (sym view) ∙ length-reverse (take j items) in
    omega (arith, length-take j items)

pub future_len : (items : List RecordData) (i : ℕ) (h : HistoryData) → seen items i ≡ h → 0 < length h.future → i < length items
future_len items i h view some =
    let e : length h.future ≡ length (drop i items) = ap (λ (k : HistoryData). length k.future) (sym view) in
    omega (arith, length-drop i items)

-- ---- the records beside the cursor

any_append : (p : RecordData → Bool) (xs : List RecordData) (r : RecordData) → list_any p (xs ++ r ∷ []) ≡ (p r || list_any p xs)
any_append p [] r = refl
any_append p (x ∷ xs) r = ap (λ (b : Bool). p x || b) (any_append p xs r) ∙ or_swapped (p x) (p r) (list_any p xs) where
  or_swapped : (a b c : Bool) → (a || (b || c)) ≡ (b || (a || c))
  or_swapped true true c = refl
  or_swapped true false c = refl
  or_swapped false b c = refl

any_reverse : (p : RecordData → Bool) (xs : List RecordData) → list_any p (reverse xs) ≡ list_any p xs
any_reverse p [] = refl
any_reverse p (x ∷ xs) = ap (list_any p) (reverse-append (x ∷ []) xs) ∙ any_append p (reverse xs) x ∙ ap (λ (b : Bool). p x || b) (any_reverse p xs)

-- the last of the done records are the first of the past
pub any_last : (p : RecordData → Bool) (done past : List RecordData) (count : ℕ) → reverse done ≡ past
    → list_any p (drop (length done - count) done) ≡ list_any p (take count past)
any_last p done past count is =
    elim (cases_lt (length done) count) [
      | inl lt ↦
          let none : length done - count ≡ 0 = omega (arith, lt) in
          let size : length past ≡ length done = ap (λ (rs : List RecordData). length rs) (sym is) ∙ length-reverse done in
          let whole : take count past ≡ past = take_all count past (omega (arith, lt, size)) in
          ap (λ (m : ℕ). list_any p (drop m done)) none ∙ sym (any_reverse p done) ∙ ap (list_any p) (is ∙ sym whole)
      | inr le ↦
          let m = length done - count in
          let last : List RecordData = drop m done in
          let size : length (reverse last) ≡ count = length-reverse last ∙ omega (arith, length-drop m done, le) in
          sym (ap (λ (rs : List RecordData). list_any p (take count rs)) (sym is)
          ∙ ap (λ (rs : List RecordData). list_any p (take count (reverse rs))) (sym (take-append-drop m done))
          ∙ ap (λ (rs : List RecordData). list_any p (take count rs)) (reverse-append (take m done) last)
          ∙ ap (λ (k : ℕ). list_any p (take k (reverse last ++ reverse (take m done)))) (sym size)
          ∙ ap (list_any p) (take-append_seam (reverse last) (reverse (take m done)))
          ∙ any_reverse p last)
    ]

-- the first of the undone records are those of the future
pub any_first : (p : RecordData → Bool) (future : List RecordData) (count : ℕ)
    → list_any p (take (min count (length future)) future) ≡ list_any p (take count future)
any_first p future count =
    elim (cases_lt (length future) count) [
      | inl lt ↦
          let all : min count (length future) ≡ length future = omega (arith, lt) in
          ap (λ (k : ℕ). list_any p (take k future)) all
          ∙ ap (list_any p) (take_all (length future) future (omega arith) ∙ sym (take_all count future (omega (arith, lt))))
      | inr le ↦ ap (λ (k : ℕ). list_any p (take k future)) (let some : min count (length future) ≡ count = omega (arith, le) in some)
    ]

-- the last record before the cursor is the first of the past
pub last_is : (done past : List RecordData) (r : RecordData) → reverse done ≡ past → Some r ≡ slice_get done (length done - 1)
    → past ≡ r ∷ drop 1 past
last_is done past r is at =
    let i = length done - 1 in
    let within : i < length done = slice_get_within done i r (sym at) in
    let first : past ≡ r ∷ reverse (take i done) = sym is
    ∙ ap (reverse {A = RecordData}) (sym (take_all (suc i) done (omega arith)))
    ∙ past_is done i r within (sym (get_or_from_slice_get done i r r (sym at))) in
    first ∙ ap (λ (rs : List RecordData). r ∷ drop 1 rs) (sym first)

-- the first record from the cursor on is the first of the future
pub first_is : (ahead future : List RecordData) (r : RecordData) → ahead ≡ future → Some r ≡ slice_get ahead 0 → future ≡ r ∷ drop 1 future
first_is ahead future r is at = sym is ∙ first_of ahead at ∙ ap (λ (rs : List RecordData). r ∷ drop 1 rs) is where
  first_of : (rs : List RecordData) → Some r ≡ slice_get rs 0 → rs ≡ r ∷ drop 1 rs
  first_of [] at = absurd cc
  first_of (x ∷ xs) at = ap (λ (y : RecordData). y ∷ xs) (let same : x ≡ r = cc in same)
