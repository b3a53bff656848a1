-- Sessions: a base, the edits done, and the edits undone.
use Rattle.std.specs.Prelude.{◌≡◌, ℕ, ◌-◌, nat_lt, Bool, false, ◌||◌, List, [], ◌∷◌, ◌++◌, length, map, reverse, take, drop, Result, Ok, Err, IsOk, if◌then◌else◌}
use Rattle.lsa_codec.specs.declared.address.AreaId.{AreaId}
use Rattle.lsdb.specs.Lists.{Lists}
use Rattle.lsdb.specs.Slots.{Slots, lists_of}
use Rattle.edit_script.specs.declared.edit.Edit.{Edit}
use Rattle.edit_history.specs.declared.fault.EditFault.{EditFault}
use Rattle.edit_history.specs.declared.fault.EditFault.TheVariants.{HistoryFull}
use Rattle.edit_history.specs.Effect.{effect, ◌>>=◌, edit_touches}
use Rattle.edit_history.specs.Exchange.{RecordData}
use Rattle.edit_history.specs.Journal.{HistoryData, Links, origin}

-- the database at the start, the edits done since then, in order, and the edits undone, the next to be
-- redone first
pub record Session : Type 0 where
  pub base : Lists
  pub done : List Edit
  pub undone : List Edit

-- the database after an edit; a refused one changes nothing
abbrev pub unless_refused : Lists → Result Lists EditFault → Lists
unless_refused db (Ok after) = after
unless_refused db (Err fault) = db

-- the database after edits, in order
abbrev pub after_edits : Lists → List Edit → Lists
after_edits db [] = db
after_edits db (e ∷ es) = after_edits (unless_refused db (effect db e)) es

-- the database of a session: the effects of the done edits, from the base on
abbrev pub state : Session → Lists
state s = after_edits s.base s.done

-- the database after edits, in order, or the first refusal
abbrev pub effects : Lists → List Edit → Result Lists EditFault
effects db [] = Ok db
effects db (e ∷ es) = effect db e >>= λ after. effects after es

-- ---- steps

-- the session that begins at a database
abbrev pub start : Lists → Session
start db = record { base = db; done = []; undone = [] }

abbrev pub accepted : Session → Edit → Result Lists EditFault → Result Session EditFault
accepted s e (Ok db) = Ok (record { base = s.base; done = s.done ++ e ∷ []; undone = [] })
accepted s e (Err fault) = Err fault

abbrev pub most_edits : ℕ
most_edits = 10000

-- the session after an edit, or its refusal
unfoldable pub edited : Session → Edit → Result Session EditFault
edited s e = if nat_lt (length s.done) most_edits then accepted s e (effect (state s) e) else Err HistoryFull

-- the session after edits, or the first refusal
abbrev pub edited_by : Session → List Edit → Result Session EditFault
edited_by s [] = Ok s
edited_by s (e ∷ es) = edited s e >>= λ t. edited_by t es

-- the last k of the done edits move to the front of the undone ones
abbrev pub moved_back : ℕ → Session → Session
moved_back k s = record { base = s.base; done = take (length s.done - k) s.done; undone = drop (length s.done - k) s.done ++ s.undone }

-- the first k of the undone edits move to the end of the done ones
abbrev pub moved_on : ℕ → Session → Session
moved_on k s = record { base = s.base; done = s.done ++ take k s.undone; undone = drop k s.undone }

-- ---- the sessions that requests lead to

-- a request to a session: an edit, to take edits back, or to carry them out again
pub data Request : Type 0 where
  edit : Edit → Request
  undo : ℕ → Request
  redo : ℕ → Request

-- a refused edit leaves the session as it was
abbrev pub accepted_or : Session → Result Session EditFault → Session
accepted_or s (Ok t) = t
accepted_or s (Err fault) = s

-- the session after a request; more edits than there are cannot be undone or redone
abbrev pub after_request : Session → Request → Session
after_request s (edit e) = accepted_or s (edited s e)
after_request s (undo k) = if nat_lt (length s.done) k then s else moved_back k s
after_request s (redo k) = if nat_lt (length s.undone) k then s else moved_on k s

abbrev pub after_requests : Session → List Request → Session
after_requests s [] = s
after_requests s (r ∷ rs) = after_requests (after_request s r) rs

-- no done edit is refused after those before it, from the base on, and no undone one after these
pub record NoneRefused (s : Session) : Type 0 where
  pub done : effects s.base s.done ≡ Ok (state s)
  pub undone : IsOk (effects (state s) s.undone)

-- ---- which areas the edits touch

-- whether one of some edits, carried out in order, touches an area
abbrev pub edits_touch : AreaId → Lists → List Edit → Bool
edits_touch area db [] = false
edits_touch area db (e ∷ es) = edit_touches area db e || edits_touch area (unless_refused db (effect db e)) es

-- whether one of the last k done edits touches an area
abbrev pub undo_touches : ℕ → AreaId → Session → Bool
undo_touches k area s = edits_touch area (state (moved_back k s)) (drop (length s.done - k) s.done)

-- whether one of the first k undone edits touches an area
abbrev pub redo_touches : ℕ → AreaId → Session → Bool
redo_touches k area s = edits_touch area (state s) (take k s.undone)

-- ---- the session that a history shows at a database

abbrev pub edits_of : List RecordData → List Edit
edits_of rs = map (λ r. r.edit) rs

abbrev pub session_of : Slots → HistoryData → Session
session_of d h = record { base = lists_of (origin d h.past); done = reverse (edits_of h.past); undone = edits_of h.future }

-- one edit moves back; one moves on
pub record StepsBack (s t : Session) : Type 0 where
  pub edit : Edit
  pub base : t.base ≡ s.base
  pub done : s.done ≡ t.done ++ edit ∷ []
  pub undone : t.undone ≡ edit ∷ s.undone

pub record StepsOn (s t : Session) : Type 0 where
  pub edit : Edit
  pub base : t.base ≡ s.base
  pub done : t.done ≡ s.done ++ edit ∷ []
  pub undone : s.undone ≡ edit ∷ t.undone

-- a step of a history and its database
pub record Turned (Steps : Session → Session → Type 0) (d e : Slots) (h k : HistoryData) : Type 0 where
  pub linked : Links e k
  pub session : Steps (session_of d h) (session_of e k)
