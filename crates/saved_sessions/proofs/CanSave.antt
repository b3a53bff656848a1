-- What a planner shows can be saved.
use Rattle.std.proofs.Common.{◌≡◌, ℕ, ◌+◌, ◌≤◌, false, List, [], ◌∷◌, ◌++◌, length, Result, Ok, Err, refl, sym, ap, subst, ◌∙◌}
use Rattle.std.specs.Prelude.{All, IsOk, OnOk}
use Rattle.std.proofs.lemmas.List.{take_at, drop_at}
use Rattle.std.proofs.lemmas.List.Elements.{All-cons, All-drop, All-head, All-nil, All-tail, All-take}
use Rattle.lsdb.specs.Lists.{Lists, IsDatabase}
use Rattle.lsdb.specs.Slots.{Slots}
use Rattle.edit_script.specs.declared.edit.Edit.{Edit}
use Rattle.edit_script.specs.Spelling.{is_event, IsScripted, IsScriptedUnlessEvent}
use Rattle.edit_history.specs.declared.fault.EditFault.{EditFault}
use Rattle.edit_history.specs.Journal.{HistoryData}
use Rattle.edit_history.specs.Session as session
use Rattle.edit_history.specs.Session.{Session, NoneRefused, effects, most_edits}
use Rattle.edit_history.proofs.HistoryLemmas.{done_accepted, undone_accepted, state_is}
use Rattle.recalculate.specs.Reached.{IsReached}
use Rattle.saved_sessions.specs.Saved.{CanBeSaved, HasNoEvents}

abbrev leads_to : Lists → Result Lists EditFault
leads_to db = Ok db

none_refused : (s : Session) → IsReached s → NoneRefused s
none_refused s reached =
    let d : Slots = reached.slots in
    let h : HistoryData = reached.history in
    let state = state_is d h reached.links in
    subst NoneRefused reached.shows
    (record {
      done = done_accepted d h reached.links ∙ ap leads_to (sym state);
      undone = subst (λ (db : Lists). IsOk (effects db (session.session_of d h).undone)) (sym state) (undone_accepted d h reached.links);
    })

can_be_saved : (s : Session) (edits : List Edit) → IsDatabase s.base → IsReached s → edits ≡ s.done ++ s.undone → All IsScripted edits
    → length s.done + length s.undone ≤ most_edits → CanBeSaved s
can_be_saved s edits base reached is fit few =
    let n : ℕ = length s.done in
    let all : All IsScripted (s.done ++ s.undone) = subst (All IsScripted) is fit in
    record {
      base = base;
      accepted = none_refused s reached;
      few = few;
      done_fit = subst (All IsScripted) (take_at s.done s.undone n refl) (All-take IsScripted n (s.done ++ s.undone) all);
      undone_fit = subst (All IsScripted) (drop_at s.done s.undone n refl) (All-drop IsScripted n (s.done ++ s.undone) all);
    }

-- edits that are no events are those of scripts
scripted : (edits : List Edit) → All (λ edit. is_event edit ≡ false) edits → All IsScriptedUnlessEvent edits → All IsScripted edits
scripted [] none fit = All-nil IsScripted
scripted (edit ∷ edits) none fit =
    let no_event : Edit → Type 0 = λ e. is_event e ≡ false in
    All-cons IsScripted edit edits (All-head IsScriptedUnlessEvent edit edits fit (All-head no_event edit edits none))
    (scripted edits (All-tail no_event edit edits none) (All-tail IsScriptedUnlessEvent edit edits fit))

-- so it can be where its edits were written, and none is an event
pub saved_where : {F : Type 0} (r : Result (Unit {0}) F) (s : Session) (edits : List Edit) → IsDatabase s.base → IsReached s → edits ≡ s.done ++ s.undone
    → length s.done + length s.undone ≤ most_edits → OnOk r (All IsScriptedUnlessEvent edits) → HasNoEvents s → OnOk r (CanBeSaved s)
saved_where {F} (Ok x) s edits base reached is few fit none =
    can_be_saved s edits base reached is (scripted edits (subst (All (λ edit. is_event edit ≡ false)) (sym is) none) fit) few
saved_where {F} (Err f) s edits base reached is few fit none = tt
