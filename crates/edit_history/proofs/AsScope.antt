-- Edits that change LSAs of areas alone leave those of AS scope as they are.
use Rattle.std.proofs.Common.{◌≡◌, ℕ, zero, suc, ◌<◌, Bool, true, false, cond, List, [], ◌∷◌, length, take, Option, Some, None, Result}
use Rattle.std.proofs.Common.{refl, sym, ap, ◌∙◌, subst, arith}
use Rattle.std.specs.Prelude.{◌&&◌, AllPairs, is_some, nat_le}
use Rattle.std.specs.List.{All, cons_option, find, list_any}
use Rattle.std.proofs.lemmas.Bool.{and_parts, leb-false, or_parts}
use Rattle.std.proofs.lemmas.List.{take-map}
use Rattle.std.proofs.lemmas.List.Elements.{All-head}
use Rattle.lsdb.specs.Lists.{AreaHead, IsBefore, IsDatabase, Lists, SectionLsas, areas_of, heads_of, is_as_wide, is_section, lsas_of, lsas_or_none}
use Rattle.lsdb.specs.Slots.{Slot, Slots, SectionSlots, lists_of, put, section_of, update_at}
use Rattle.lsdb.specs.declared.section.Section.TheVariants.{AsWide}
use Rattle.lsdb.proofs.ListLemmas.{pairs_head, pairs_tail}
use Rattle.edit_history.specs.declared.fault.EditFault.{EditFault}
use Rattle.edit_history.specs.Exchange.{RecordData, SwapData, changes_as_scope, done_slots, is_of_as_scope, undone_slots}
use Rattle.edit_history.specs.Journal.{HistoryData, Links, LinksOn, origin}
use Rattle.edit_history.specs.Session.{after_edits, edits_of, moved_back, moved_on, session_of, state, unless_refused}
use Rattle.edit_history.specs.declared.moved.Moved.{Moved}
use Rattle.edit_history.specs.declared.moved.Moved.TheVariants.{Back, On}
use Rattle.edit_history.specs.Moving.{before, moved_records}
use Rattle.edit_history.proofs.Growing.{state_is}
use Rattle.edit_history.proofs.Touching.{after_append, back_state, first_on}

-- the LSAs of AS scope
abbrev pub of_as : Lists → List (List ℕ)
of_as db = lsas_of AsWide db

-- the first n sections are areas
abbrev pub areas_first : ℕ → List (Option AreaHead) → Bool
areas_first zero hs = true
areas_first (suc n) [] = true
areas_first (suc n) (h ∷ hs) = is_some h && areas_first n hs

abbrev pub AreasFirst : ℕ → Slots → Type 0
AreasFirst n d = areas_first n (heads_of (lists_of d)) ≡ true

-- all areas come before the LSAs of AS scope
all_first : (db : Lists) → AllPairs IsBefore (heads_of db) → areas_first (length (areas_of db)) (heads_of db) ≡ true
all_first [] pairs = refl
all_first (s ∷ db) pairs = by s.area refl (all_first db (pairs_tail IsBefore s.area (heads_of db) pairs))
  where
    none_after : (rest : Lists) → All (IsBefore None) (heads_of rest) → areas_first (length (areas_of rest)) (None ∷ heads_of rest) ≡ true
    none_after [] all = refl
    none_after (t ∷ rest) all = absurd (All-head (IsBefore None) t.area (heads_of rest) all)

    by : (area : Option AreaHead) → s.area ≡ area → areas_first (length (areas_of db)) (heads_of db) ≡ true
        → areas_first (length (cons_option area (areas_of db))) (area ∷ heads_of db) ≡ true
    by None is rest = none_after db (subst (λ (o : Option AreaHead). All (IsBefore o) (heads_of db)) is (pairs_head IsBefore s.area (heads_of db) pairs))
    by (Some head) is rest = rest

pub first_of_database : (d : Slots) → IsDatabase (lists_of d) → AreasFirst (length (areas_of (lists_of d))) d
first_of_database d sound = all_first (lists_of d) sound.heads.order

-- ---- one slot

module _ (g : List Slot → List Slot) where
  abbrev with_slots : SectionSlots → SectionSlots
  with_slots s = record { area = s.area; slots = g s.slots }

  heads_kept : (d : Slots) (i : ℕ) → heads_of (lists_of (update_at with_slots d i)) ≡ heads_of (lists_of d)
  heads_kept [] i = refl
  heads_kept (s ∷ d) zero = refl
  heads_kept (s ∷ d) (suc i) = ap (λ (hs : List (Option AreaHead)). s.area ∷ hs) (heads_kept d i)

  not_wide : (area : Option AreaHead) (s t : SectionLsas) (o : Option SectionLsas) → is_some area ≡ true
      → cond (is_as_wide area) (Some s) o ≡ cond (is_as_wide area) (Some t) o
  not_wide None s t o h = absurd cc
  not_wide (Some head) s t o h = refl

  found_kept : (d : Slots) (n i : ℕ) → AreasFirst n d → i < n
      → find (is_section AsWide) (lists_of (update_at with_slots d i)) ≡ find (is_section AsWide) (lists_of d)
  found_kept d zero i first below = absurd (let no : suc i ≡ 0 = omega (arith, below) in cc)
  found_kept [] (suc n) i first below = refl
  found_kept (s ∷ d) (suc n) zero first below =
      not_wide s.area (section_of (with_slots s)) (section_of s) (find (is_section AsWide) (lists_of d))
      (and_parts (is_some s.area) (areas_first n (heads_of (lists_of d))) first).0
  found_kept (s ∷ d) (suc n) (suc i) first below =
      ap (cond (is_as_wide s.area) (Some (section_of s)))
      (found_kept d n i (and_parts (is_some s.area) (areas_first n (heads_of (lists_of d))) first).1 (omega (arith, below)))

-- what stays from slots to slots: the first n sections are areas, and the LSAs of AS scope are
-- the same
record Stays (n : ℕ) (d e : Slots) : Type 0 where
  pub first : AreasFirst n e
  pub same : of_as (lists_of e) ≡ of_as (lists_of d)

stays_itself : (n : ℕ) (d : Slots) → AreasFirst n d → Stays n d d
stays_itself n d first = record { first = first; same = refl }

stays_on : (n : ℕ) (d e f : Slots) → Stays n d e → Stays n e f → Stays n d f
stays_on n d e f a b = record { first = b.first; same = b.same ∙ a.same }

below_from : (n k : ℕ) → nat_le n k ≡ false → k < n
below_from n k h = leb-false n k h

put_stays : (n : ℕ) (d : Slots) (s : SwapData) (v : Slot) → AreasFirst n d → is_of_as_scope n s ≡ false → Stays n d (put d s.slot v)
put_stays n d s v first inside =
    let g : List Slot → List Slot = λ ps. update_at (λ _. v) ps s.slot.index in
    record {
      first = ap (areas_first n) (heads_kept g d s.slot.section) ∙ first;
      same = ap lsas_or_none (found_kept g d n s.slot.section first (below_from n s.slot.section inside));
    }

-- ---- the swaps of a record

abbrev any_of_as : ℕ → List SwapData → Bool
any_of_as n ss = list_any (is_of_as_scope n) ss

undone_stays : (n : ℕ) (d : Slots) (ss : List SwapData) → AreasFirst n d → any_of_as n ss ≡ false → Stays n d (undone_slots d ss)
undone_stays n d [] first none = stays_itself n d first
undone_stays n d (s ∷ ss) first none =
    let parts = or_parts (is_of_as_scope n s) (any_of_as n ss) none in
    let rest = undone_stays n d ss first parts.1 in
    stays_on n d (undone_slots d ss) (put (undone_slots d ss) s.slot s.other) rest (put_stays n (undone_slots d ss) s s.other rest.first parts.0)

done_stays : (n : ℕ) (d : Slots) (ss : List SwapData) → AreasFirst n d → any_of_as n ss ≡ false → Stays n d (done_slots d ss)
done_stays n d [] first none = stays_itself n d first
done_stays n d (s ∷ ss) first none =
    let parts = or_parts (is_of_as_scope n s) (any_of_as n ss) none in
    let here = put_stays n d s s.other first parts.0 in
    stays_on n d (put d s.slot s.other) (done_slots (put d s.slot s.other) ss) here (done_stays n (put d s.slot s.other) ss here.first parts.1)

-- ---- a history

abbrev any_changes : ℕ → List RecordData → Bool
any_changes n rs = list_any (changes_as_scope n) rs

origin_stays : (n : ℕ) (d : Slots) (rs : List RecordData) → AreasFirst n d → any_changes n rs ≡ false → Stays n d (origin d rs)
origin_stays n d [] first none = stays_itself n d first
origin_stays n d (r ∷ rs) first none =
    let parts = or_parts (changes_as_scope n r) (any_changes n rs) none in
    let here = undone_stays n d r.swaps first parts.0 in
    stays_on n d (undone_slots d r.swaps) (origin (undone_slots d r.swaps) rs) here (origin_stays n (undone_slots d r.swaps) rs here.first parts.1)

on_same : (n : ℕ) (d : Slots) (rs : List RecordData) → LinksOn d rs → AreasFirst n d → any_changes n rs ≡ false
    → of_as (after_edits (lists_of d) (edits_of rs)) ≡ of_as (lists_of d)
on_same n d [] links first none = refl
on_same n d (r ∷ rs) links first none =
    let parts = or_parts (changes_as_scope n r) (any_changes n rs) none in
    let here = done_stays n d r.swaps first parts.0 in
    ap (λ (a : Result Lists EditFault). of_as (after_edits (unless_refused (lists_of d) a) (edits_of rs))) links.0.leads
    ∙ on_same n (done_slots d r.swaps) rs links.1 here.first parts.1
    ∙ here.same

undo_spares_as : (d : Slots) (h : HistoryData) (k : ℕ) → Links d h
    → list_any (changes_as_scope (length (areas_of (lists_of d)))) (take k h.past) ≡ false
    → of_as (state (moved_back k (session_of d h))) ≡ of_as (state (session_of d h))
undo_spares_as d h k links none =
    ap of_as (back_state d h k links)
    ∙ (origin_stays (length (areas_of (lists_of d))) d (take k h.past) (first_of_database d links.sound) none).same
    ∙ ap of_as (sym (state_is d h links))

redo_spares_as : (d : Slots) (h : HistoryData) (k : ℕ) → Links d h
    → list_any (changes_as_scope (length (areas_of (lists_of d)))) (take k h.future) ≡ false
    → of_as (state (moved_on k (session_of d h))) ≡ of_as (state (session_of d h))
redo_spares_as d h k links none =
    let s = session_of d h in
    let is : state s ≡ lists_of d = state_is d h links in
    ap of_as
    (after_append s.base s.done (take k s.undone)
    ∙ ap (λ (db : Lists). after_edits db (take k s.undone)) is
    ∙ ap (after_edits (lists_of d)) (take-map (λ (r : RecordData). r.edit) k h.future))
    ∙ on_same (length (areas_of (lists_of d))) d (take k h.future) (first_on d k h.future links.on) (first_of_database d links.sound) none
    ∙ ap of_as (sym is)

pub moved_spares_as : (d : Slots) (h : HistoryData) (moved : Moved) → Links d h
    → list_any (changes_as_scope (length (areas_of (lists_of d)))) (moved_records moved h) ≡ false
    → of_as (state (before moved (session_of d h))) ≡ of_as (state (session_of d h))
moved_spares_as d h (On k) links none = undo_spares_as d h k links none
moved_spares_as d h (Back k) links none = redo_spares_as d h k links none
