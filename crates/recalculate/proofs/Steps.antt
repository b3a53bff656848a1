-- The steps of a session, by the database and the history that show it.
use Rattle.std.proofs.Common.{◌≡◌, ◌<◌, ◌≤◌, List, [], ◌∷◌, ◌++◌, length, Result, Ok, Err, None, sym, ap, ◌∙◌, subst, arith, ltb}
use Rattle.std.specs.Prelude.{reverse}
use Rattle.std.proofs.lemmas.Bool.{lt-ltb, le-ltb, cond-true, cond-false}
use Rattle.lsdb.specs.Lists.{Lists, IsDatabase}
use Rattle.lsdb.specs.Slots.{Slots, lists_of}
use Rattle.edit_script.specs.declared.edit.Edit.{Edit}
use Rattle.edit_history.specs.declared.fault.EditFault.{EditFault}
use Rattle.edit_history.specs.declared.fault.EditFault.TheVariants.{HistoryFull}
use Rattle.edit_history.specs.Effect.{effect}
use Rattle.edit_history.specs.Applied.{Applied}
use Rattle.edit_history.specs.Exchange.{RecordData}
use Rattle.edit_history.specs.Journal.{HistoryData, Links, origin}
use Rattle.edit_history.specs.Session.{Session, session_of, edits_of, edited, accepted, state, most_edits}
use Rattle.edit_history.proofs.HistoryLemmas.{done_len, reverse_cons}
use Rattle.edit_history.proofs.HistoryLemmas.{state_is, recorded}
use Rattle.recalculate.specs.Reached.{IsStudied}

start_links : (d : Slots) (h : HistoryData) → IsDatabase (lists_of d) → h ≡ record { past = []; future = [] } → Links d h
start_links d h sound e = subst (λ (k : HistoryData). Links d k) (sym e) (record { sound = sound; back = tt; on = tt })

pub start_studied : (d : Slots) (h : HistoryData) → IsDatabase (lists_of d) → h ≡ record { past = []; future = [] } → IsStudied d h None
start_studied d h sound e = record {
  links = start_links d h sound e;
  few = omega (arith, ap (λ (k : HistoryData). length k.past) e, ap (λ (k : HistoryData). length k.future) e);
  loaded = tt;
}

-- the database of a history is that of the session that it shows
pub shown_state : (d : Slots) (h : HistoryData) (s : Session) → Links d h → session_of d h ≡ s → lists_of d ≡ state s
shown_state d h s links shows = sym (state_is d h links) ∙ ap (λ (t : Session). state t) shows

abbrev pub answer : Session → Result Session EditFault
answer s = Ok s

abbrev fault : EditFault → Result Session EditFault
fault f = Err f

-- a history with one record more
abbrev pub pushed : RecordData → HistoryData → HistoryData
pushed r h = record { past = r ∷ h.past; future = [] }

pub edited_full : (d : Slots) (h : HistoryData) (e : Edit) → most_edits ≤ length h.past → edited (session_of d h) e ≡ Err HistoryFull
unfolding edited
edited_full d h e full =
    cond-false (ltb (length (session_of d h).done) most_edits) (accepted (session_of d h) e (effect (state (session_of d h)) e)) (fault HistoryFull)
    (le-ltb (length (session_of d h).done) most_edits (omega (arith, done_len d h)))

with_room : (d : Slots) (h : HistoryData) (e : Edit) → length h.past < most_edits → Links d h
    → edited (session_of d h) e ≡ accepted (session_of d h) e (effect (lists_of d) e)
unfolding edited
with_room d h e room links =
    cond-true (ltb (length (session_of d h).done) most_edits) (accepted (session_of d h) e (effect (state (session_of d h)) e)) (fault HistoryFull)
    (lt-ltb (length (session_of d h).done) most_edits (omega (arith, done_len d h)))
    ∙ ap (λ (db : Lists). accepted (session_of d h) e (effect db e)) (state_is d h links)

pub edited_refused : (d : Slots) (h : HistoryData) (e : Edit) (f : EditFault) → length h.past < most_edits
    → Links d h → effect (lists_of d) e ≡ Err f → edited (session_of d h) e ≡ Err f
edited_refused d h e f room links refused = with_room d h e room links ∙ ap (accepted (session_of d h) e) refused

pub edited_accepted : (d d' : Slots) (h : HistoryData) (e : Edit) (r : RecordData) → length h.past < most_edits → Links d h
    → IsDatabase (lists_of d') → Applied d d' e r → edited (session_of d h) e ≡ Ok (session_of d' (pushed r h))
edited_accepted d d' h e r room links sound applied =
    let kept = recorded d d' h e r links sound applied in
    with_room d h e room links
    ∙ ap (accepted (session_of d h) e) applied.leads
    ∙ ap (λ (db : Lists). answer (record { base = db; done = reverse (edits_of h.past) ++ e ∷ []; undone = [] })) (sym kept.base)
    ∙ ap (λ (x : Edit). answer
    (record { base = lists_of (origin d' (r ∷ h.past)); done = reverse (edits_of h.past) ++ x ∷ []; undone = [] })) (sym applied.same)
    ∙ ap (λ (es : List Edit). answer (record { base = lists_of (origin d' (r ∷ h.past)); done = es; undone = [] }))
    (sym (reverse_cons r.edit (edits_of h.past)))
