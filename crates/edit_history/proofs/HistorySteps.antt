-- One step of a history, by its vector and its cursor.
use Rattle.std.proofs.Common.{◌≡◌, ℕ, suc, ◌<◌, List, ◌∷◌, length, get_or, take, drop, sym, ◌∙◌, subst}
use Rattle.std.specs.Prelude.{reverse, slice_set}
use Rattle.lsdb.specs.Slots.{Slots}
use Rattle.edit_history.specs.Exchange.{RecordData, undone_slots, undone, done_slots, redone}
use Rattle.edit_history.specs.Journal.{HistoryData, Links}
use Rattle.edit_history.specs.Session.{session_of, StepsBack, StepsOn, Turned}
use Rattle.edit_history.proofs.Cursor.{seen, seen_after, seen_after_back, seen_ahead, seen_after_on}
use Rattle.edit_history.proofs.Linked.{step_back, step_on, session_back, session_on}

pub back_turn : (d : Slots) (h : HistoryData) (items : List RecordData) (i j : ℕ) (r : RecordData) → seen items j ≡ h → j ≡ suc i → i < length items
    → r ≡ get_or items i r → Links d h → Turned StepsBack d (undone_slots d r.swaps) h (seen (slice_set items i (undone d r)) i)
back_turn d h items i j r view is lt reads links =
    let rs : List RecordData = reverse (take i items) in
    let fs : List RecordData = drop j items in
    let before : h ≡ record { past = r ∷ rs; future = fs } = sym view ∙ seen_after items i j r is lt reads in
    let after : seen (slice_set items i (undone d r)) i ≡ record { past = rs; future = undone d r ∷ fs } = seen_after_back items i j
    (undone d r) is lt in
    let e : Slots = undone_slots d r.swaps in
    record {
      linked = subst (λ (k : HistoryData). Links e k) (sym after) (step_back d r rs fs (subst (λ (k : HistoryData). Links d k) before links));
      session =
          subst (λ (k : HistoryData). StepsBack (session_of d h) (session_of e k)) (sym after)
          (subst (λ (k : HistoryData). StepsBack (session_of d k) (session_of e (record { past = rs; future = undone d r ∷ fs }))) (sym before)
          (session_back d r rs fs));
    }

pub on_turn : (d : Slots) (h : HistoryData) (items : List RecordData) (i j : ℕ) (r : RecordData) → seen items i ≡ h → j ≡ suc i → i < length items
    → r ≡ get_or items i r → Links d h → Turned StepsOn d (done_slots d r.swaps) h (seen (slice_set items i (redone d r)) j)
on_turn d h items i j r view is lt reads links =
    let rs : List RecordData = reverse (take i items) in
    let fs : List RecordData = drop (suc i) items in
    let before : h ≡ record { past = rs; future = r ∷ fs } = sym view ∙ seen_ahead items i r lt reads in
    let after : seen (slice_set items i (redone d r)) j ≡ record { past = redone d r ∷ rs; future = fs } = seen_after_on items i j
    (redone d r) is lt in
    let e : Slots = done_slots d r.swaps in
    let linked : Links d (record { past = rs; future = r ∷ fs }) = subst (λ (k : HistoryData). Links d k) before links in
    record {
      linked = subst (λ (k : HistoryData). Links e k) (sym after) (step_on d r rs fs linked);
      session =
          subst (λ (k : HistoryData). StepsOn (session_of d h) (session_of e k)) (sym after)
          (subst (λ (k : HistoryData). StepsOn (session_of d k) (session_of e (record { past = redone d r ∷ rs; future = fs }))) (sym before)
          (session_on d r rs fs linked));
    }
