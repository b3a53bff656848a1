-- Swaps that are done are undone again, and the other way round.
use Rattle.std.proofs.Common.{◌≡◌, List, [], ◌∷◌, Option, Some, None, refl, sym, ap, ◌∙◌, subst, rules}
use Rattle.std.specs.Prelude.{IsSome, unwrap_or}
use Rattle.lsdb.specs.declared.slot.SlotId.{SlotId}
use Rattle.lsdb.specs.Slots.{Slot, Slots, put, slot_at, lists_of}
use Rattle.lsdb.specs.Lists.{IsDatabase}
use Rattle.lsdb.proofs.SlotLemmas.{put-put, put-slot_at, slot_at-put}
use Rattle.edit_history.specs.Exchange.{SwapData, taken, done_slots, done_swaps, CanDo, undone_slots, undone_swaps, CanUndo, UndoesAgain, DoesAgain}

pub some_is : (o : Option Slot) → IsSome o → o ≡ Some (unwrap_or o None)
some_is None h = absurd (search rules)
some_is (Some p) h = refl

abbrev there : Slots → SlotId → Slot
there d slot = unwrap_or (slot_at d slot) None

-- ---- one swap

back_again : (d : Slots) (slot : SlotId) (v : Slot) → IsSome (slot_at d slot) → put (put d slot v) slot (there d slot) ≡ d
back_again d slot v some = put-put d slot v (there d slot) ∙ put-slot_at d slot (there d slot) (some_is (slot_at d slot) some)

there_after : (d : Slots) (slot : SlotId) (v : Slot) → IsSome (slot_at d slot) → slot_at (put d slot v) slot ≡ Some v
there_after d slot v some = slot_at-put d slot v (there d slot) (some_is (slot_at d slot) some)

taken_again : (d : Slots) (s : SwapData) → IsSome (slot_at d s.slot) → taken (put d s.slot s.other) (taken d s) ≡ s
taken_again d s some =
    ap (λ (o : Option Slot).
    let t : SwapData = record { slot = s.slot; section = s.section; kind = s.kind; other = unwrap_or o None } in t) (there_after d s.slot s.other some)

exists_after : (d : Slots) (slot : SlotId) (v : Slot) → IsSome (slot_at d slot) → IsSome (slot_at (put d slot v) slot)
exists_after d slot v some = subst (λ (o : Option Slot). IsSome o) (sym (there_after d slot v some)) refl

-- ---- all swaps

pub undo_done : (d : Slots) (ss : List SwapData) → IsDatabase (lists_of d) → CanDo d ss → UndoesAgain d ss
undo_done d [] sound can = record { slots = refl; swaps = refl; can = tt }
undo_done d (s ∷ ss) sound can =
    let m : Slots = put d s.slot s.other in
    let rest = undo_done m ss can.1 can.2 in
    record {
      slots = ap (λ (u : Slots). put u s.slot (there d s.slot)) rest.slots ∙ back_again d s.slot s.other can.0;
      swaps = ap (λ (u : Slots). taken u (taken d s) ∷ undone_swaps (done_slots m ss) (done_swaps m ss)) rest.slots
          ∙ ap (λ (ts : List SwapData). taken m (taken d s) ∷ ts) rest.swaps
          ∙ ap (λ (t : SwapData). t ∷ ss) (taken_again d s can.0);
      can = (
        rest.can,
        subst (λ (u : Slots). IsSome (slot_at u s.slot)) (sym rest.slots) (exists_after d s.slot s.other can.0),
        subst (λ (u : Slots). IsDatabase (lists_of u))
            (sym (ap (λ (u : Slots). put u s.slot (there d s.slot)) rest.slots ∙ back_again d s.slot s.other can.0)) sound,
      );
    }

pub undone_sound : (d : Slots) (ss : List SwapData) → IsDatabase (lists_of d) → CanUndo d ss → IsDatabase (lists_of (undone_slots d ss))
undone_sound d [] sound can = sound
undone_sound d (s ∷ ss) sound can = can.2

pub done_sound : (d : Slots) (ss : List SwapData) → IsDatabase (lists_of d) → CanDo d ss → IsDatabase (lists_of (done_slots d ss))
done_sound d [] sound can = sound
done_sound d (s ∷ ss) sound can = done_sound (put d s.slot s.other) ss can.1 can.2

pub do_undone : (d : Slots) (ss : List SwapData) → IsDatabase (lists_of d) → CanUndo d ss → DoesAgain d ss
do_undone d [] sound can = record { slots = refl; swaps = refl; can = tt }
do_undone d (s ∷ ss) sound can =
    let u : Slots = undone_slots d ss in
    let us : List SwapData = undone_swaps d ss in
    let v : Slots = put u s.slot s.other in
    let rest = do_undone d ss sound can.0 in
    let back : put v s.slot (there u s.slot) ≡ u = back_again u s.slot s.other can.1 in
    record {
      slots = ap (λ (w : Slots). done_slots w us) back ∙ rest.slots;
      swaps = ap (λ (w : Slots). taken v (taken u s) ∷ done_swaps w us) back
          ∙ ap (λ (ts : List SwapData). taken v (taken u s) ∷ ts) rest.swaps
          ∙ ap (λ (t : SwapData). t ∷ ss) (taken_again u s can.1);
      can = (
        exists_after u s.slot s.other can.1,
        subst (λ (w : Slots). IsDatabase (lists_of w)) (sym back) (undone_sound d ss sound can.0),
        subst (λ (w : Slots). CanDo w us) (sym back) rest.can,
      );
    }
