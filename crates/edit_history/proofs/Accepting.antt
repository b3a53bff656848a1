-- No edit of a session is refused on the way.
use Rattle.std.proofs.Common.{◌≡◌, ℕ, ◌-◌, Bool, true, false, cond, List, [], ◌∷◌, ◌++◌, length, take, drop, append_assoc, append-nil, Result, Ok, Err}
use Rattle.std.proofs.Common.{refl, sym, ap, ◌∙◌, subst, ltb}
use Rattle.std.specs.Prelude.{IsOk}
use Rattle.std.proofs.lemmas.List.{take-append-drop}
use Rattle.lsdb.specs.Lists.{Lists}
use Rattle.edit_script.specs.declared.edit.Edit.{Edit}
use Rattle.edit_history.specs.declared.fault.EditFault.{EditFault}
use Rattle.edit_history.specs.declared.fault.EditFault.TheVariants.{HistoryFull}
use Rattle.edit_history.specs.Effect.{effect, ◌>>=◌}
use Rattle.edit_history.specs.Session.{Session, Request, edit, undo, redo, start, state, after_edits, unless_refused, effects, accepted, edited}
use Rattle.edit_history.specs.Session.{accepted_or, after_request, after_requests, moved_back, moved_on, NoneRefused}

-- all edits of a session, the undone ones after the done ones, are accepted in turn
abbrev AllAccepted : Session → Type 0
AllAccepted s = IsOk (effects s.base (s.done ++ s.undone))

effects_append : (db : Lists) (xs ys : List Edit) → effects db (xs ++ ys) ≡ (effects db xs >>= λ after. effects after ys)
effects_append db [] ys = refl
effects_append db (x ∷ xs) ys = by_answer (effect db x) (λ after. effects_append after xs ys) where
  by_answer : (r : Result Lists EditFault) → ((after : Lists) → effects after (xs ++ ys) ≡ (effects after xs >>= λ next. effects next ys))
      → (r >>= λ after. effects after (xs ++ ys)) ≡ ((r >>= λ after. effects after xs) >>= λ next. effects next ys)
  by_answer (Ok after) rest = rest after
  by_answer (Err fault) rest = refl

-- where edits are accepted, they lead to the state that they are folded to
folded : (db after : Lists) (es : List Edit) → effects db es ≡ Ok after → after_edits db es ≡ after
folded db after [] is = let same : db ≡ after = cc in same
folded db after (e ∷ es) is = by_answer (effect db e) is (λ next. folded next after es) where
  by_answer : (r : Result Lists EditFault) → (r >>= λ next. effects next es) ≡ Ok after
      → ((next : Lists) → effects next es ≡ Ok after → after_edits next es ≡ after) → after_edits (unless_refused db r) es ≡ after
  by_answer (Ok next) is rest = rest next is
  by_answer (Err fault) is rest = absurd cc

by_parts : (s : Session) (r : Result Lists EditFault) → effects s.base s.done ≡ r → IsOk (r >>= λ after. effects after s.undone) → NoneRefused s
by_parts s (Ok after) is ok =
    let same : state s ≡ after = folded s.base after s.done is in
    record {
      done = is ∙ ap (λ (db : Lists). let a : Result Lists EditFault = Ok db in a) (sym same);
      undone = subst (λ (db : Lists). IsOk (effects db s.undone)) (sym same) ok;
    }
by_parts s (Err fault) is ok = absurd cc

parts : (s : Session) → AllAccepted s → NoneRefused s
parts s all = by_parts s (effects s.base s.done) refl (subst (λ (r : Result Lists EditFault). IsOk r) (effects_append s.base s.done s.undone) all)

whole : (s : Session) → NoneRefused s → AllAccepted s
whole s none =
    subst (λ (r : Result Lists EditFault). IsOk r) (sym
    (effects_append s.base s.done s.undone ∙ ap (λ (r : Result Lists EditFault). r >>= λ after. effects after s.undone) none.done)) none.undone

pub none_at_start : (db : Lists) → NoneRefused (start db)
none_at_start db = record { done = refl; undone = refl }

-- ---- an undo or redo moves the place between the done and the undone edits

same_edits : (s t : Session) → t.base ≡ s.base → t.done ++ t.undone ≡ s.done ++ s.undone → NoneRefused s → NoneRefused t
same_edits s t base edits none =
    parts t (subst (λ (es : List Edit). IsOk (effects t.base es)) (sym edits)
    (subst (λ (db : Lists). IsOk (effects db (s.done ++ s.undone))) (sym base) (whole s none)))

pub none_after_undo : (s : Session) (k : ℕ) → NoneRefused s → NoneRefused (moved_back k s)
none_after_undo s k none =
    let n = length s.done - k in
    same_edits s (moved_back k s) refl (sym (append_assoc (take n s.done) (drop n s.done) s.undone) ∙ ap (λ (es : List Edit). es ++ s.undone)
    (take-append-drop n s.done)) none

pub none_after_redo : (s : Session) (k : ℕ) → NoneRefused s → NoneRefused (moved_on k s)
none_after_redo s k none =
    same_edits s (moved_on k s) refl (append_assoc s.done (take k s.undone) (drop k s.undone) ∙ ap (λ (es : List Edit). s.done ++ es)
    (take-append-drop k s.undone)) none

-- ---- an edit

accepted_one : (s t : Session) (e : Edit) (r : Result Lists EditFault) → effect (state s) e ≡ r → accepted s e r ≡ Ok t → NoneRefused s
    → NoneRefused t
accepted_one s t e (Err fault) leads is none = absurd cc
accepted_one s t e (Ok db) leads is none =
    let same : (let u : Session = record { base = s.base; done = s.done ++ e ∷ []; undone = [] } in u) ≡ t = cc in
    let after : effects s.base (s.done ++ e ∷ []) ≡ Ok db =
    effects_append s.base s.done (e ∷ [])
    ∙ ap (λ (r : Result Lists EditFault). r >>= λ next. effects next (e ∷ [])) none.done
    ∙ ap (λ (r : Result Lists EditFault). r >>= λ next. effects next []) leads in
    subst NoneRefused same
    (parts (record { base = s.base; done = s.done ++ e ∷ []; undone = [] })
    (subst (λ (es : List Edit). IsOk (effects s.base es)) (sym (append-nil (s.done ++ e ∷ [])))
    (subst (λ (r : Result Lists EditFault). IsOk r) (sym after) refl)))

pub none_after_edit : (s t : Session) (e : Edit) → NoneRefused s → edited s e ≡ Ok t → NoneRefused t
unfolding edited
none_after_edit s t e none is = by_room (ltb (length s.done) 10000) is where
  by_room : (b : Bool) → cond b (accepted s e (effect (state s) e)) (Err HistoryFull) ≡ Ok t → NoneRefused t
  by_room true is = accepted_one s t e (effect (state s) e) refl is none
  by_room false is = absurd cc

-- ---- all requests

none_if : (b : Bool) (s t : Session) → NoneRefused s → NoneRefused t → NoneRefused (cond b s t)
none_if true s t one two = one
none_if false s t one two = two

none_after_request : (s : Session) (r : Request) → NoneRefused s → NoneRefused (after_request s r)
none_after_request s (edit e) none = by_answer (edited s e) refl where
  by_answer : (r : Result Session EditFault) → edited s e ≡ r → NoneRefused (accepted_or s r)
  by_answer (Ok t) is = none_after_edit s t e none is
  by_answer (Err fault) is = none
none_after_request s (undo k) none = none_if (ltb (length s.done) k) s (moved_back k s) none (none_after_undo s k none)
none_after_request s (redo k) none = none_if (ltb (length s.undone) k) s (moved_on k s) none (none_after_redo s k none)

none_after_requests : (s : Session) (rs : List Request) → NoneRefused s → NoneRefused (after_requests s rs)
none_after_requests s [] none = none
none_after_requests s (r ∷ rs) none = none_after_requests (after_request s r) rs (none_after_request s r none)

pub none_reached : (db : Lists) (rs : List Request) → NoneRefused (after_requests (start db) rs)
none_reached db rs = none_after_requests (start db) rs (none_at_start db)
