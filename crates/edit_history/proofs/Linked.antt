-- A history stays linked to its database as it steps back and on.
use Rattle.std.proofs.Common.{◌≡◌, ℕ, zero, suc, add-one, ◌+◌, ◌-◌, ◌≤◌, List, [], ◌∷◌, ◌++◌, length, take, drop, Result, Ok, append_assoc, length-append, refl, sym, ap, ◌∙◌, subst, arith}
use Rattle.std.specs.Prelude.{map, reverse}
use Rattle.std.proofs.lemmas.List.{length-reverse, length-map, reverse-append, take_all, drop_all, append-nil}
use Rattle.lsdb.specs.Lists.{Lists}
use Rattle.lsdb.specs.Slots.{Slots, lists_of}
use Rattle.edit_script.specs.declared.edit.Edit.{Edit}
use Rattle.edit_history.specs.declared.fault.EditFault.{EditFault}
use Rattle.edit_history.specs.Rules.{Change}
use Rattle.edit_history.specs.Effect.{effect, changes}
use Rattle.edit_history.specs.Applied.{swap_change}
use Rattle.edit_history.specs.Exchange.{SwapData, RecordData, undone, redone, undone_slots, undone_swaps, done_slots}
use Rattle.edit_history.specs.Journal.{HistoryData, LinksBack, LinksOn, Links, origin}
use Rattle.edit_history.specs.Session.{Session, edits_of, session_of, StepsBack, StepsOn, Turned, moved_back, moved_on}
use Rattle.edit_history.proofs.Exchanged.{undo_done, do_undone, undone_sound, done_sound}

abbrev pub whole : Lists → Result Lists EditFault
whole db = Ok db

abbrev pub all_reported : Slots → List SwapData → Result (List Change) EditFault
all_reported e ss = Ok (map (swap_change e) ss)

pub step_back : (d : Slots) (r : RecordData) (rs fs : List RecordData) → Links d (record { past = r ∷ rs; future = fs })
    → Links (undone_slots d r.swaps) (record { past = rs; future = undone d r ∷ fs })
step_back d r rs fs links =
    let u : Slots = undone_slots d r.swaps in
    let us : List SwapData = undone_swaps d r.swaps in
    let again = do_undone d r.swaps links.sound links.back.0.can in
    record {
      sound = undone_sound d r.swaps links.sound links.back.0.can;
      back = links.back.1;
      on = (
        record {
          can = again.can;
          leads = links.back.0.leads ∙ ap (λ (e : Slots). whole (lists_of e)) (sym again.slots);
          reports = links.back.0.reports ∙ ap (λ (e : Slots). all_reported e r.swaps) (sym again.slots)
              ∙ ap (all_reported (done_slots u us)) (sym again.swaps);
        },
        subst (λ (e : Slots). LinksOn e fs) (sym again.slots) links.on,
      );
    }

pub step_on : (d : Slots) (r : RecordData) (rs fs : List RecordData) → Links d (record { past = rs; future = r ∷ fs })
    → Links (done_slots d r.swaps) (record { past = redone d r ∷ rs; future = fs })
step_on d r rs fs links =
    let again = undo_done d r.swaps links.sound links.on.0.can in
    record {
      sound = done_sound d r.swaps links.sound links.on.0.can;
      back = (
        record {
          can = again.can;
          leads = ap (λ (e : Slots). effect (lists_of e) r.edit) again.slots ∙ links.on.0.leads;
          reports = ap (λ (e : Slots). changes (lists_of e) r.edit) again.slots ∙ links.on.0.reports;
        },
        subst (λ (e : Slots). LinksBack e rs) (sym again.slots) links.back,
      );
      on = links.on.1;
    }

-- ---- sessions

pub reverse_cons : (e : Edit) (es : List Edit) → reverse (e ∷ es) ≡ reverse es ++ e ∷ []
reverse_cons e es = reverse-append (e ∷ []) es

pub session_back : (d : Slots) (r : RecordData) (rs fs : List RecordData)
    → StepsBack (session_of d (record { past = r ∷ rs; future = fs }))
    (session_of (undone_slots d r.swaps) (record { past = rs; future = undone d r ∷ fs }))
session_back d r rs fs = record { edit = r.edit; base = refl; done = reverse_cons r.edit (edits_of rs); undone = refl }

pub session_on : (d : Slots) (r : RecordData) (rs fs : List RecordData) → Links d (record { past = rs; future = r ∷ fs })
    → StepsOn (session_of d (record { past = rs; future = r ∷ fs }))
    (session_of (done_slots d r.swaps) (record { past = redone d r ∷ rs; future = fs }))
session_on d r rs fs links =
    let again = undo_done d r.swaps links.sound links.on.0.can in
    record { edit = r.edit; base = ap (λ (e : Slots). lists_of (origin e rs)) again.slots; done = reverse_cons r.edit (edits_of rs); undone = refl }

-- ---- several steps

not_empty : (front : List Edit) (e : Edit) → front ++ e ∷ [] ≡ [] → ⊥
not_empty [] e h = cc
not_empty (f ∷ front) e h = cc

snoc_split : (ds front : List Edit) (e : Edit) (m : ℕ) → front ++ e ∷ [] ≡ take (suc m) ds → suc m ≤ length ds
    → (front ≡ take m ds) × (e ∷ drop (suc m) ds ≡ drop m ds)
snoc_split [] front e m h le = absurd (omega arith)
snoc_split (d ∷ ds) [] e zero h le = (refl, ap (λ (x : Edit). x ∷ ds) (let same : e ≡ d = cc in same))
snoc_split (d ∷ []) [] e (suc m) h le = absurd (omega arith)
snoc_split (d ∷ x ∷ ds) [] e (suc m) h le = absurd cc
snoc_split (d ∷ ds) (f ∷ front) e zero h le = absurd (not_empty front e (let tails : front ++ e ∷ [] ≡ [] = cc in tails))
snoc_split (d ∷ ds) (f ∷ front) e (suc m) h le =
    let tails : front ++ e ∷ [] ≡ take (suc m) ds = cc in
    let heads : f ≡ d = cc in
    let rest = snoc_split ds front e m tails (omega arith) in
    (ap (λ (x : Edit). x ∷ front) heads ∙ ap (λ (xs : List Edit). d ∷ xs) rest.0, rest.1)

next_split : (us rest : List Edit) (e : Edit) (i : ℕ) → drop i us ≡ e ∷ rest → (take (suc i) us ≡ take i us ++ e ∷ []) × (drop (suc i) us ≡ rest)
next_split [] rest e zero h = absurd cc
next_split [] rest e (suc i) h = absurd cc
next_split (u ∷ us) rest e zero h = (ap (λ (x : Edit). x ∷ []) (let same : u ≡ e = cc in same), (let same : us ≡ rest = cc in same))
next_split (u ∷ us) rest e (suc i) h =
    let more = next_split us rest e i h in
    (ap (λ (xs : List Edit). u ∷ xs) more.0, more.1)

-- the session by its parts
pub same_session : (s t : Session) → s.base ≡ t.base → s.done ≡ t.done → s.undone ≡ t.undone → s ≡ t
same_session s t b d u =
    ap (λ (x : Lists). let r : Session = record { base = x; done = s.done; undone = s.undone } in r) b
    ∙ ap (λ (x : List Edit). let r : Session = record { base = t.base; done = x; undone = s.undone } in r) d
    ∙ ap (λ (x : List Edit). let r : Session = record { base = t.base; done = t.done; undone = x } in r) u

-- i steps back and one more
pub back_more : (s now next : Session) (i j : ℕ) → j ≡ suc i → j ≤ length s.done → now ≡ moved_back i s → StepsBack now next → next ≡ moved_back j s
back_more s now next i j is le at step =
    let m = length s.done - j in
    let count : length s.done - i ≡ suc m = omega arith in
    let front : next.done ++ step.edit ∷ [] ≡ take (suc m) s.done = sym step.done ∙ ap (λ (x : Session). x.done) at
    ∙ ap (λ (k : ℕ). take k s.done) count in
    let split = snoc_split s.done next.done step.edit m front (omega arith) in
    same_session next (moved_back j s)
    (step.base ∙ ap (λ (x : Session). x.base) at)
    split.0
    (step.undone
    ∙ ap (λ (x : Session). step.edit ∷ x.undone) at
    ∙ ap (λ (k : ℕ). step.edit ∷ (drop k s.done ++ s.undone)) count
    ∙ ap (λ (xs : List Edit). xs ++ s.undone) split.1)

pub on_more : (s now next : Session) (i j : ℕ) → j ≡ suc i → now ≡ moved_on i s → StepsOn now next → next ≡ moved_on j s
on_more s now next i j is at step =
    let split = next_split s.undone next.undone step.edit i (sym (ap (λ (x : Session). x.undone) at) ∙ step.undone) in
    same_session next (moved_on j s)
    (step.base ∙ ap (λ (x : Session). x.base) at)
    (step.done
    ∙ ap (λ (x : Session). x.done ++ step.edit ∷ []) at
    ∙ append_assoc s.done (take i s.undone) (step.edit ∷ [])
    ∙ ap (λ (xs : List Edit). s.done ++ xs) (sym split.0)
    ∙ ap (λ (k : ℕ). s.done ++ take k s.undone) (sym is))
    (sym split.1 ∙ ap (λ (k : ℕ). drop k s.undone) (sym is))

-- no step
pub back_none : (s : Session) → s ≡ moved_back 0 s
back_none s = same_session s (moved_back 0 s) refl (sym (take_all (length s.done - 0) s.done (omega arith)))
    (ap (λ (xs : List Edit). xs ++ s.undone) (sym (drop_all (length s.done - 0) s.done (omega arith))))

pub on_none : (s : Session) → s ≡ moved_on 0 s
on_none s = same_session s (moved_on 0 s) refl (sym (append-nil s.done)) refl

pub done_len : (d : Slots) (h : HistoryData) → length (session_of d h).done ≡ length h.past
done_len d h = length-reverse (edits_of h.past) ∙ length-map h.past (λ (r : RecordData). r.edit)

pub undone_len : (d : Slots) (h : HistoryData) → length (session_of d h).undone ≡ length h.future
undone_len d h = length-map h.future (λ (r : RecordData). r.edit)

-- one step leaves one edit less in its way
pub past_less : {d e : Slots} {h k : HistoryData} → Turned StepsBack d e h k → length h.past ≡ length k.past + 1
past_less {d} {e} {h} {k} turned =
    sym (done_len d h) ∙ ap (λ (es : List Edit). length es) turned.session.done
    ∙ length-append (session_of e k).done (turned.session.edit ∷ []) ∙ ap (λ (n : ℕ). n + 1) (done_len e k)

pub future_less : {d e : Slots} {h k : HistoryData} → Turned StepsOn d e h k → length h.future ≡ length k.future + 1
future_less {d} {e} {h} {k} turned =
    sym (undone_len d h) ∙ ap (λ (es : List Edit). length es) turned.session.undone
    ∙ sym (add-one (length (session_of e k).undone)) ∙ ap (λ (n : ℕ). n + 1) (undone_len e k)
