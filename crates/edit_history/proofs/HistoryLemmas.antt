-- For callers of a history: how it is linked to its database, the session that it shows, which areas its edits touch, and whether they change LSAs of AS scope.
use Rattle.std.proofs.Common.{◌≡◌, ◌<◌, ◌≤◌, List, [], ◌∷◌, ◌++◌, length, Result, Ok, Err, refl, sym, ap, ◌∙◌, arith, ltb}
use Rattle.std.specs.Prelude.{reverse}
use Rattle.std.proofs.lemmas.Bool.{lt-ltb, le-ltb, cond-true, cond-false}
use Rattle.std.proofs.lemmas.List.{map-append, reverse-append}
use Rattle.lsdb.specs.Lists.{Lists, IsDatabase}
use Rattle.lsdb.specs.Slots.{Slots, lists_of}
use Rattle.edit_script.specs.declared.edit.Edit.{Edit}
use Rattle.edit_history.specs.declared.fault.EditFault.{EditFault}
use Rattle.edit_history.specs.declared.fault.EditFault.TheVariants.{HistoryFull}
use Rattle.edit_history.specs.Effect.{effect}
use Rattle.edit_history.specs.Exchange.{RecordData, undone_slots}
use Rattle.edit_history.specs.Grown.{Grown}
use Rattle.edit_history.specs.Applied.{Applied}
use Rattle.edit_history.specs.Journal.{HistoryData, Links, origin}
use Rattle.edit_history.specs.Session.{Session, session_of, edits_of, edited, accepted, state, most_edits}
use Rattle.edit_history.proofs.Growing.{grown_stays}
pub use Rattle.edit_history.proofs.AsScope.{moved_spares_as, of_as}
pub use Rattle.edit_history.proofs.Folding.{done_accepted, undone_accepted}
pub use Rattle.edit_history.proofs.Growing.{state_is, recorded}
pub use Rattle.edit_history.proofs.Keys.{found_passes}
pub use Rattle.edit_history.proofs.Linked.{done_len, undone_len, reverse_cons}
pub use Rattle.edit_history.proofs.Returning.{edits_back, back_and_on, on_and_back, seam_drop, seam_take}
pub use Rattle.edit_history.proofs.RefreshApart.{refresh_touches_none}
pub use Rattle.edit_history.proofs.Sparing.{untouched_stay}
pub use Rattle.edit_history.proofs.Touching.{applied_touches, undo_is, undo_spares, redo_is, redo_spares}

-- ---- how it is linked

-- a history with one more record
abbrev pub pushed : RecordData → HistoryData → HistoryData
pushed r h = record { past = r ∷ h.past; future = [] }

pub start_linked : (d : Slots) → IsDatabase (lists_of d) → Links d (record { past = []; future = [] })
start_linked d sound = record { sound = sound; back = tt; on = tt }

pub pushed_linked : (d e : Slots) (h : HistoryData) (edit : Edit) (r : RecordData) → Links d h → IsDatabase (lists_of e) → Applied d e edit r
    → Links e (pushed r h)
pushed_linked d e h edit r links sound applied = (recorded d e h edit r links sound applied).links

pub opened_linked : (d e : Slots) (h : HistoryData) → Links d h → Grown d e → Links e h
opened_linked d e h links grown = (grown_stays d e h grown links).links

-- ---- the session that it shows

abbrev taken : Session → Result Session EditFault
taken s = Ok s

abbrev refused : EditFault → Result Session EditFault
refused fault = Err fault

abbrev with_base : HistoryData → Lists → Session
with_base h db = record { base = db; done = reverse (edits_of h.past); undone = edits_of h.future }

pub opened_session : (d e : Slots) (h : HistoryData) → Links d h → Grown d e → session_of e h ≡ session_of d h
opened_session d e h links grown = ap (with_base h) (grown_stays d e h grown links).base

pub edited_full : (d : Slots) (h : HistoryData) (e : Edit) → most_edits ≤ length h.past → edited (session_of d h) e ≡ Err HistoryFull
unfolding edited
edited_full d h e full =
    let s : Session = session_of d h in
    cond-false (ltb (length s.done) most_edits) (accepted s e (effect (state s) e)) (refused HistoryFull)
    (le-ltb (length s.done) most_edits (omega (arith, done_len d h)))

with_room : (d : Slots) (h : HistoryData) (e : Edit) → length h.past < most_edits → Links d h
    → edited (session_of d h) e ≡ accepted (session_of d h) e (effect (lists_of d) e)
unfolding edited
with_room d h e room links =
    let s : Session = session_of d h in
    cond-true (ltb (length s.done) most_edits) (accepted s e (effect (state s) e)) (refused HistoryFull)
    (lt-ltb (length s.done) most_edits (omega (arith, done_len d h)))
    ∙ ap (λ (db : Lists). accepted s e (effect db e)) (state_is d h links)

pub edited_refused : (d : Slots) (h : HistoryData) (e : Edit) (f : EditFault) → length h.past < most_edits → Links d h
    → effect (lists_of d) e ≡ Err f → edited (session_of d h) e ≡ Err f
edited_refused d h e f room links is = with_room d h e room links ∙ ap (accepted (session_of d h) e) is

-- the session with these edits done
abbrev doing : Lists → List Edit → Session
doing base done = record { base = base; done = done; undone = [] }

pub edited_accepted : (d d' : Slots) (h : HistoryData) (e : Edit) (r : RecordData) → length h.past < most_edits → Links d h → Applied d d' e r
    → edited (session_of d h) e ≡ Ok (session_of d' (pushed r h))
edited_accepted d d' h e r room links applied =
    let base = (grown_stays d (undone_slots d' r.swaps) h applied.before links).base in
    let before : List Edit = reverse (edits_of h.past) in
    with_room d h e room links
    ∙ ap (accepted (session_of d h) e) applied.leads
    ∙ ap (λ (db : Lists). taken (doing db (before ++ e ∷ []))) (sym base)
    ∙ ap (λ (x : Edit). taken (doing (lists_of (origin d' (r ∷ h.past))) (before ++ x ∷ []))) (sym applied.same)
    ∙ ap (λ (es : List Edit). taken (doing (lists_of (origin d' (r ∷ h.past))) es)) (sym (reverse_cons r.edit (edits_of h.past)))

-- ---- its records

reversed_edits : (rs : List RecordData) → edits_of (reverse rs) ≡ reverse (edits_of rs)
reversed_edits [] = refl
reversed_edits (r ∷ rs) =
    ap edits_of (reverse-append (r ∷ []) rs) ∙ map-append (λ (x : RecordData). x.edit) (reverse rs) (r ∷ [])
    ∙ ap (λ (es : List Edit). es ++ r.edit ∷ []) (reversed_edits rs) ∙ sym (reverse_cons r.edit (edits_of rs))

-- the done records in the order in which they were carried out, and after them the undone ones
pub edits_in_order : (d : Slots) (h : HistoryData) → edits_of (reverse h.past ++ h.future) ≡ (session_of d h).done ++ (session_of d h).undone
edits_in_order d h =
    map-append (λ (x : RecordData). x.edit) (reverse h.past) h.future
    ∙ ap (λ (es : List Edit). es ++ edits_of h.future) (reversed_edits h.past)
