-- A history's last done record and its first undone one, and the databases before and after the one that it is linked
-- to.
use Rattle.std.proofs.Common.{◌≡◌, ℕ, List, [], ◌∷◌, drop, Some, refl, sym, ap, ◌∙◌, subst, arith}
use Rattle.std.specs.Prelude.{IsSome}
use Rattle.lsdb.specs.declared.slot.SlotId.{SlotId}
use Rattle.lsdb.specs.Lists.{IsDatabase}
use Rattle.lsdb.specs.Slots.{Slot, Slots, lists_of, put, slot_at}
use Rattle.edit_history.specs.Exchange.{SwapData, RecordData, CanDo, CanUndo, done_slots, undone_slots, redone, undone}
use Rattle.edit_history.specs.Journal.{HistoryData, Links}
use Rattle.edit_history.specs.Session.{Session, session_of, state, moved_back, moved_on}
use Rattle.edit_history.specs.declared.moved.Moved.TheVariants.{Back, On}
use Rattle.edit_history.specs.Moving.{IsOneChange}
use Rattle.edit_history.specs.steps.Holding.{HoldsOne}
use Rattle.edit_history.proofs.Linked.{step_back, step_on, session_back, session_on, back_more, back_none, on_more, on_none, done_len}
use Rattle.edit_history.proofs.Growing.{state_is}

-- ---- one step back or on

abbrev recorded : List RecordData → List RecordData → HistoryData
recorded past future = record { past = past; future = future }

state_back_one : (d : Slots) (r : RecordData) (rs fs : List RecordData) → Links d (recorded (r ∷ rs) fs)
    → state (moved_back 1 (session_of d (recorded (r ∷ rs) fs))) ≡ lists_of (undone_slots d r.swaps)
state_back_one d r rs fs links =
    let s : Session = session_of d (recorded (r ∷ rs) fs) in
    let e : Slots = undone_slots d r.swaps in
    let k : HistoryData = recorded rs (undone d r ∷ fs) in
    let moved : session_of e k ≡ moved_back 1 s = back_more s s (session_of e k) 0 1 refl (omega (arith, done_len d (recorded (r ∷ rs) fs)))
    (back_none s) (session_back d r rs fs) in
    ap (λ (t : Session). state t) (sym moved) ∙ state_is e k (step_back d r rs fs links)

state_on_one : (d : Slots) (r : RecordData) (rs fs : List RecordData) → Links d (recorded rs (r ∷ fs))
    → state (moved_on 1 (session_of d (recorded rs (r ∷ fs)))) ≡ lists_of (done_slots d r.swaps)
state_on_one d r rs fs links =
    let s : Session = session_of d (recorded rs (r ∷ fs)) in
    let e : Slots = done_slots d r.swaps in
    let k : HistoryData = recorded (redone d r ∷ rs) fs in
    let moved : session_of e k ≡ moved_on 1 s = on_more s s (session_of e k) 0 1 refl (on_none s) (session_on d r rs fs links) in
    ap (λ (t : Session). state t) (sym moved) ∙ state_is e k (step_on d r rs fs links)

-- ---- the one slot of a record

-- the slot exists, and with this LSA there the slots are those of a sound database
record Exchanges (d : Slots) (slot : SlotId) (lsa : List ℕ) (e : Slots) : Type 0 where
  pub there : IsSome (slot_at d slot)
  pub leads : e ≡ put d slot (Some lsa)
  pub sound : IsDatabase (lists_of (put d slot (Some lsa)))

named : (d : Slots) (s : SwapData) (slot : SlotId) (lsa : List ℕ) → s.slot ≡ slot → s.other ≡ Some lsa → IsSome (slot_at d s.slot)
    → IsDatabase (lists_of (put d s.slot s.other)) → Exchanges d slot lsa (put d s.slot s.other)
named d s slot lsa same_slot held there sound =
    let leads : put d s.slot s.other ≡ put d slot (Some lsa) = ap (λ (x : SlotId). put d x s.other) same_slot
    ∙ ap (λ (p : Slot). put d slot p) held in
    record {
      there = subst (λ (x : SlotId). IsSome (slot_at d x)) same_slot there;
      leads = leads;
      sound = subst (λ (e : Slots). IsDatabase (lists_of e)) leads sound;
    }

undoes_one : (d : Slots) (r : RecordData) (slot : SlotId) (lsa : List ℕ) → HoldsOne r slot lsa → CanUndo d r.swaps
    → Exchanges d slot lsa (undone_slots d r.swaps)
undoes_one d r slot lsa one can =
    let each : CanUndo d (one.swap ∷ []) = subst (λ (ss : List SwapData). CanUndo d ss) one.alone can in
    subst (λ (ss : List SwapData). Exchanges d slot lsa (undone_slots d ss)) (sym one.alone)
    (named d one.swap slot lsa one.same_slot one.held each.1 each.2)

does_one : (d : Slots) (r : RecordData) (slot : SlotId) (lsa : List ℕ) → HoldsOne r slot lsa → CanDo d r.swaps
    → Exchanges d slot lsa (done_slots d r.swaps)
does_one d r slot lsa one can =
    let each : CanDo d (one.swap ∷ []) = subst (λ (ss : List SwapData). CanDo d ss) one.alone can in
    subst (λ (ss : List SwapData). Exchanges d slot lsa (done_slots d ss)) (sym one.alone)
    (named d one.swap slot lsa one.same_slot one.held each.0 each.1)

-- ---- histories

pub last_changed : (d : Slots) (h : HistoryData) (r : RecordData) (slot : SlotId) (lsa : List ℕ) → h.past ≡ r ∷ drop 1 h.past
    → HoldsOne r slot lsa → Links d h → IsOneChange (On 1) d h slot lsa
last_changed d h r slot lsa is one links =
    let rs : List RecordData = drop 1 h.past in
    let linked : Links d (recorded (r ∷ rs) h.future) = subst (λ (past : List RecordData). Links d (recorded past h.future)) is links in
    let made = undoes_one d r slot lsa one linked.back.0.can in
    record {
      there = made.there;
      leads_from = ap (λ (past : List RecordData). state (moved_back 1 (session_of d (recorded past h.future)))) is
          ∙ state_back_one d r rs h.future linked ∙ ap (λ (e : Slots). lists_of e) made.leads;
      sound = made.sound;
    }

pub next_changed : (d : Slots) (h : HistoryData) (r : RecordData) (slot : SlotId) (lsa : List ℕ) → h.future ≡ r ∷ drop 1 h.future
    → HoldsOne r slot lsa → Links d h → IsOneChange (Back 1) d h slot lsa
next_changed d h r slot lsa is one links =
    let fs : List RecordData = drop 1 h.future in
    let linked : Links d (recorded h.past (r ∷ fs)) = subst (λ (future : List RecordData). Links d (recorded h.past future)) is links in
    let made = does_one d r slot lsa one linked.on.0.can in
    record {
      there = made.there;
      leads_from = ap (λ (future : List RecordData). state (moved_on 1 (session_of d (recorded h.past future)))) is
          ∙ state_on_one d r h.past fs linked ∙ ap (λ (e : Slots). lists_of e) made.leads;
      sound = made.sound;
    }
