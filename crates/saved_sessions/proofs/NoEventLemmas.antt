-- Sessions without events: at the start, after an edit of a script, and where edits move back and on.
use Rattle.std.proofs.Common.{◌≡◌, ℕ, ◌-◌, false, List, [], ◌∷◌, ◌++◌, length, take, drop, Ok, refl, sym, ap, ◌∙◌, subst, append_assoc}
use Rattle.std.specs.Prelude.{All}
use Rattle.std.proofs.lemmas.List.{append-nil, take-append-drop, take_at}
use Rattle.std.proofs.lemmas.List.Elements.{All-append, All-cons, All-nil, All-take}
use Rattle.lsdb.specs.Lists.{Lists}
use Rattle.edit_script.specs.declared.edit.Edit.{Edit}
use Rattle.edit_script.specs.declared.edit.Edit.TheVariants.{Cost, DropLink, FailLink, FailNet, FailRouter, AddStub, Summary, AddSummary, AddExternal, DropExternal, Refresh, Event as of_event}
use Rattle.edit_script.specs.Spelling.{is_event, IsScripted}
use Rattle.edit_history.specs.Session.{Session, edited, moved_back, moved_on, start}
use Rattle.saved_sessions.specs.Saved.{HasNoEvents}
use Rattle.saved_sessions.proofs.Doing.{doing, one_done}

abbrev IsNoEvent : Edit → Type 0
IsNoEvent edit = is_event edit ≡ false

-- an edit that a line of a script means is no event
pub scripted_is_no_event : (edit : Edit) → IsScripted edit → is_event edit ≡ false
scripted_is_no_event (Cost area router link metric) fits = refl
scripted_is_no_event (DropLink area router link) fits = refl
scripted_is_no_event (FailLink area router neighbor) fits = refl
scripted_is_no_event (FailNet area network) fits = refl
scripted_is_no_event (FailRouter router) fits = refl
scripted_is_no_event (AddStub area router prefix metric) fits = refl
scripted_is_no_event (Summary area router prefix metric) fits = refl
scripted_is_no_event (AddSummary area router prefix metric) fits = refl
scripted_is_no_event (AddExternal router prefix type metric forward tag) fits = refl
scripted_is_no_event (DropExternal router prefix) fits = refl
scripted_is_no_event Refresh fits = refl
scripted_is_no_event (of_event event) fits = absurd fits

pub no_event_at_start : (db : Lists) → HasNoEvents (start db)
no_event_at_start db = All-nil IsNoEvent

-- one edit of a script more is done, and none is undone
pub no_event_done : (s t : Session) (edit : Edit) → IsScripted edit → HasNoEvents s → edited s edit ≡ Ok t → HasNoEvents t
no_event_done s t edit fits none is =
    let before : All IsNoEvent s.done = subst (All IsNoEvent) (take_at s.done s.undone (length s.done) refl)
    (All-take IsNoEvent (length s.done) (s.done ++ s.undone) none) in
    let one : All IsNoEvent (edit ∷ []) = All-cons IsNoEvent edit [] (scripted_is_no_event edit fits) (All-nil IsNoEvent) in
    let all : All IsNoEvent (s.done ++ edit ∷ []) = All-append IsNoEvent s.done (edit ∷ []) before one in
    subst HasNoEvents (sym (one_done s t edit is))
    (subst (All IsNoEvent) (sym (append-nil (s.done ++ edit ∷ []))) all)

-- the edits that moved are the same
pub none_moved_back : (s : Session) (k : ℕ) → HasNoEvents s → HasNoEvents (moved_back k s)
none_moved_back s k none =
    let n : ℕ = length s.done - k in
    let same : take n s.done ++ (drop n s.done ++ s.undone) ≡ s.done ++ s.undone =
    sym (append_assoc (take n s.done) (drop n s.done) s.undone) ∙ ap (λ (xs : List Edit). xs ++ s.undone) (take-append-drop n s.done) in
    subst (All IsNoEvent) (sym same) none

pub none_moved_on : (s : Session) (k : ℕ) → HasNoEvents s → HasNoEvents (moved_on k s)
none_moved_on s k none =
    let same : (s.done ++ take k s.undone) ++ drop k s.undone ≡ s.done ++ s.undone =
    append_assoc s.done (take k s.undone) (drop k s.undone) ∙ ap (λ (xs : List Edit). s.done ++ xs) (take-append-drop k s.undone) in
    subst (All IsNoEvent) (sym same) none
