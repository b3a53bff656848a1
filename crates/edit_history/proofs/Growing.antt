-- Slots that are opened at the ends of sections do not change what a history does.
use Rattle.std.proofs.Common.{◌≡◌, ℕ, zero, suc, List, [], ◌∷◌, ◌++◌, Option, None, Result, Ok, refl, sym, ap, ◌∙◌, subst}
use Rattle.std.specs.Prelude.{IsSome, unwrap_or, reverse, map}
use Rattle.lsdb.specs.Lists.{Lists, IsDatabase}
use Rattle.lsdb.specs.declared.slot.SlotId.{SlotId}
use Rattle.lsdb.specs.Slots.{Slot, Slots, put, slot_at, slot_in, item_at, open_at, lists_of}
use Rattle.lsdb.proofs.SlotLemmas.{slot_at-open_at, put-open_at, lists_of-open_at}
use Rattle.edit_script.specs.declared.edit.Edit.{Edit}
use Rattle.edit_history.specs.declared.fault.EditFault.{EditFault}
use Rattle.edit_history.specs.Rules.{Change}
use Rattle.edit_history.specs.Effect.{effect, changes}
use Rattle.edit_history.specs.Exchange.{SwapData, taken, done_slots, done_swaps, CanDo, undone_slots, CanUndo, RecordData}
use Rattle.edit_history.specs.Journal.{HistoryData, LinksBack, LinksOn, Links, origin}
use Rattle.edit_history.specs.Grown.{opened, Grown}
use Rattle.edit_history.specs.Applied.{Applied, swap_change}
use Rattle.edit_history.specs.Session.{edits_of, session_of, state, after_edits, unless_refused}
use Rattle.edit_history.proofs.Exchanged.{some_is}
use Rattle.edit_history.proofs.Linked.{reverse_cons, whole, all_reported}

abbrev there : Slots → SlotId → Slot
there d slot = unwrap_or (slot_at d slot) None

same_there : (d : Slots) (n : ℕ) (slot : SlotId) → IsSome (slot_at d slot) → slot_at (open_at d n) slot ≡ slot_at d slot
same_there d n slot some = slot_at-open_at d n slot (there d slot) (some_is (slot_at d slot) some) ∙ sym (some_is (slot_at d slot) some)

same_put : (d : Slots) (n : ℕ) (slot : SlotId) (v : Slot) → IsSome (slot_at d slot) → put (open_at d n) slot v ≡ open_at (put d slot v) n
same_put d n slot v some = put-open_at d n slot v (there d slot) (some_is (slot_at d slot) some)

still_sound : (d : Slots) (n : ℕ) → IsDatabase (lists_of d) → IsDatabase (lists_of (open_at d n))
still_sound d n h = subst (λ (c : Lists). IsDatabase c) (sym (lists_of-open_at d n)) h

-- ---- the LSA at a slot, where it exists

slot_grown : (ps : List Slot) (i : ℕ) → unwrap_or (item_at (ps ++ None ∷ []) i) None ≡ unwrap_or (item_at ps i) None
slot_grown [] zero = refl
slot_grown [] (suc i) = refl
slot_grown (p ∷ ps) zero = refl
slot_grown (p ∷ ps) (suc i) = slot_grown ps i

there_at : (d : Slots) (section i n : ℕ) → unwrap_or (slot_in (item_at (open_at d n) section) i) None ≡ unwrap_or
    (slot_in (item_at d section) i) None
there_at [] section i n = refl
there_at (s ∷ ss) zero i zero = slot_grown s.slots i
there_at (s ∷ ss) zero i (suc n) = refl
there_at (s ∷ ss) (suc section) i zero = refl
there_at (s ∷ ss) (suc section) i (suc n) = there_at ss section i n

there_grown : (d : Slots) (n : ℕ) (slot : SlotId) → there (open_at d n) slot ≡ there d slot
there_grown d n slot = there_at d slot.section slot.index n

taken_grown : (d : Slots) (n : ℕ) (s : SwapData) → taken (open_at d n) s ≡ taken d s
taken_grown d n s = ap (λ (p : Slot). let t : SwapData = record { slot = s.slot; section = s.section; kind = s.kind; other = p } in t)
    (there_grown d n s.slot)

reported_grown : (d : Slots) (n : ℕ) (s : SwapData) → swap_change (open_at d n) s ≡ swap_change d s
reported_grown d n s = ap (λ (p : Slot). let c : Change = record { section = s.section; kind = s.kind; old = s.other; new = p } in c)
    (there_grown d n s.slot)

abbrev all_changes : List Change → Result (List Change) EditFault
all_changes cs = Ok cs

all_reported_grown : (d : Slots) (n : ℕ) (ss : List SwapData) → map (swap_change (open_at d n)) ss ≡ map (swap_change d) ss
all_reported_grown d n [] = refl
all_reported_grown d n (s ∷ ss) =
    ap (λ (c : Change). c ∷ map (swap_change (open_at d n)) ss) (reported_grown d n s) ∙ ap (λ (cs : List Change). swap_change d s ∷ cs) (all_reported_grown d n ss)

-- ---- undoing

pub record UndoesGrown (d : Slots) (n : ℕ) (ss : List SwapData) : Type 0 where
  pub slots : undone_slots (open_at d n) ss ≡ open_at (undone_slots d ss) n
  pub can : CanUndo (open_at d n) ss

pub undo_grown : (d : Slots) (n : ℕ) (ss : List SwapData) → CanUndo d ss → UndoesGrown d n ss
undo_grown d n [] can = record { slots = refl; can = tt }
undo_grown d n (s ∷ ss) can =
    let rest = undo_grown d n ss can.0 in
    let u : Slots = undone_slots d ss in
    let next : put (undone_slots (open_at d n) ss) s.slot s.other ≡ open_at (put u s.slot s.other) n = ap
    (λ (w : Slots). put w s.slot s.other) rest.slots ∙ same_put u n s.slot s.other can.1 in
    record {
      slots = next;
      can = (
        rest.can,
        subst (λ (w : Slots). IsSome (slot_at w s.slot)) (sym rest.slots)
            (subst (λ (o : Option Slot). IsSome o) (sym (same_there u n s.slot can.1)) can.1),
        subst (λ (w : Slots). IsDatabase (lists_of w)) (sym next) (still_sound (put u s.slot s.other) n can.2),
      );
    }

-- ---- doing

pub record DoesGrown (d : Slots) (n : ℕ) (ss : List SwapData) : Type 0 where
  pub slots : done_slots (open_at d n) ss ≡ open_at (done_slots d ss) n
  pub swaps : done_swaps (open_at d n) ss ≡ done_swaps d ss
  pub can : CanDo (open_at d n) ss

pub do_grown : (d : Slots) (n : ℕ) (ss : List SwapData) → CanDo d ss → DoesGrown d n ss
do_grown d n [] can = record { slots = refl; swaps = refl; can = tt }
do_grown d n (s ∷ ss) can =
    let m : Slots = put d s.slot s.other in
    let rest = do_grown m n ss can.2 in
    let next : put (open_at d n) s.slot s.other ≡ open_at m n = same_put d n s.slot s.other can.0 in
    record {
      slots = ap (λ (w : Slots). done_slots w ss) next ∙ rest.slots;
      swaps =
          ap (λ (t : SwapData). t ∷ done_swaps (put (open_at d n) s.slot s.other) ss) (taken_grown d n s)
          ∙ ap (λ (w : Slots). taken d s ∷ done_swaps w ss) next
          ∙ ap (λ (ts : List SwapData). taken d s ∷ ts) rest.swaps;
      can = (
        subst (λ (o : Option Slot). IsSome o) (sym (same_there d n s.slot can.0)) can.0,
        subst (λ (w : Slots). IsDatabase (lists_of w)) (sym next) (still_sound m n can.1),
        subst (λ (w : Slots). CanDo w ss) (sym next) rest.can,
      );
    }

-- ---- histories

back_grown : (d : Slots) (n : ℕ) (rs : List RecordData) → LinksBack d rs → LinksBack (open_at d n) rs
back_grown d n [] links = tt
back_grown d n (r ∷ rs) links =
    let g = undo_grown d n r.swaps links.0.can in
    let u : Slots = undone_slots d r.swaps in (
      record {
        can = g.can;
        leads = ap (λ (w : Slots). effect (lists_of w) r.edit) g.slots ∙ ap (λ (c : Lists). effect c r.edit) (lists_of-open_at u n) ∙ links.0.leads
            ∙ ap whole (sym (lists_of-open_at d n));
        reports = ap (λ (w : Slots). changes (lists_of w) r.edit) g.slots ∙ ap (λ (c : Lists). changes c r.edit) (lists_of-open_at u n)
            ∙ links.0.reports ∙ ap all_changes (sym (all_reported_grown d n r.swaps));
      },
      subst (λ (w : Slots). LinksBack w rs) (sym g.slots) (back_grown u n rs links.1),
    )

on_grown : (d : Slots) (n : ℕ) (rs : List RecordData) → LinksOn d rs → LinksOn (open_at d n) rs
on_grown d n [] links = tt
on_grown d n (r ∷ rs) links =
    let g = do_grown d n r.swaps links.0.can in
    let u : Slots = done_slots d r.swaps in (
      record {
        can = g.can;
        leads = ap (λ (c : Lists). effect c r.edit) (lists_of-open_at d n) ∙ links.0.leads ∙ ap whole (sym (lists_of-open_at u n))
            ∙ ap (λ (w : Slots). whole (lists_of w)) (sym g.slots);
        reports =
            ap (λ (c : Lists). changes c r.edit) (lists_of-open_at d n)
            ∙ links.0.reports
            ∙ ap all_changes (sym (all_reported_grown u n (done_swaps d r.swaps)))
            ∙ ap (λ (w : Slots). all_reported w (done_swaps d r.swaps)) (sym g.slots)
            ∙ ap (λ (ss : List SwapData). all_reported (done_slots (open_at d n) r.swaps) ss) (sym g.swaps);
      },
      subst (λ (w : Slots). LinksOn w rs) (sym g.slots) (on_grown u n rs links.1),
    )

origin_grown : (d : Slots) (n : ℕ) (rs : List RecordData) → LinksBack d rs → lists_of (origin (open_at d n) rs) ≡ lists_of (origin d rs)
origin_grown d n [] links = lists_of-open_at d n
origin_grown d n (r ∷ rs) links =
    ap (λ (w : Slots). lists_of (origin w rs)) (undo_grown d n r.swaps links.0.can).slots ∙ origin_grown (undone_slots d r.swaps) n rs links.1

-- a history stays linked, and shows the same session
pub record Stays (d e : Slots) (h : HistoryData) : Type 0 where
  pub links : Links e h
  pub base : lists_of (origin e h.past) ≡ lists_of (origin d h.past)
  pub same : lists_of e ≡ lists_of d

open_stays : (d : Slots) (n : ℕ) (h : HistoryData) → Links d h → Stays d (open_at d n) h
open_stays d n h links = record {
  links = record { sound = still_sound d n links.sound; back = back_grown d n h.past links.back; on = on_grown d n h.future links.on };
  base = origin_grown d n h.past links.back;
  same = lists_of-open_at d n;
}

opened_stays : (d : Slots) (ns : List ℕ) (h : HistoryData) → Links d h → Stays d (opened d ns) h
opened_stays d [] h links = record { links = links; base = refl; same = refl }
opened_stays d (n ∷ ns) h links =
    let first = open_stays d n h links in
    let rest = opened_stays (open_at d n) ns h first.links in
    record { links = rest.links; base = rest.base ∙ first.base; same = rest.same ∙ first.same }

pub grown_stays : (d e : Slots) (h : HistoryData) → Grown d e → Links d h → Stays d e h
grown_stays d e h grown links = subst (λ (w : Slots). Stays d w h) (sym grown.1) (opened_stays d grown.0 h links)

-- ---- the state of a session is what its database shows

after_snoc : (c : Lists) (es : List Edit) (e : Edit) → after_edits c (es ++ e ∷ []) ≡ unless_refused (after_edits c es) (effect (after_edits c es) e)
after_snoc c [] e = refl
after_snoc c (x ∷ es) e = after_snoc (unless_refused c (effect c x)) es e

pub state_back : (d : Slots) (rs : List RecordData) → LinksBack d rs → after_edits (lists_of (origin d rs)) (reverse (edits_of rs)) ≡ lists_of d
state_back d [] links = refl
state_back d (r ∷ rs) links =
    let u : Slots = undone_slots d r.swaps in
    let base : Lists = lists_of (origin u rs) in
    ap (after_edits base) (reverse_cons r.edit (edits_of rs))
    ∙ after_snoc base (reverse (edits_of rs)) r.edit
    ∙ ap (λ (c : Lists). unless_refused c (effect c r.edit)) (state_back u rs links.1)
    ∙ ap (unless_refused (lists_of u)) links.0.leads

pub state_is : (d : Slots) (h : HistoryData) → Links d h → state (session_of d h) ≡ lists_of d
state_is d h links = state_back d h.past links.back

-- ---- an edit is recorded

pub record Recorded (d e : Slots) (h : HistoryData) (r : RecordData) : Type 0 where
  pub links : Links e (record { past = r ∷ h.past; future = [] })
  pub base : lists_of (origin e (r ∷ h.past)) ≡ lists_of (origin d h.past)

pub recorded : (d e : Slots) (h : HistoryData) (edit : Edit) (r : RecordData) → Links d h → IsDatabase (lists_of e) → Applied d e edit r
    → Recorded d e h r
recorded d e h edit r links sound applied =
    let u : Slots = undone_slots e r.swaps in
    let stays = grown_stays d u h applied.before links in
    record {
      links = record {
        sound = sound;
        back = (
          record {
            can = applied.can;
            leads = ap (λ (c : Lists). effect c r.edit) stays.same ∙ ap (λ (x : Edit). effect (lists_of d) x) applied.same ∙ applied.leads;
            reports = ap (λ (c : Lists). changes c r.edit) stays.same ∙ ap (λ (x : Edit). changes (lists_of d) x) applied.same ∙ applied.reports;
          },
          stays.links.back,
        );
        on = tt;
      };
      base = stays.base;
    }
