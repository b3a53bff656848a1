-- Edits that are undone and redone, and edits that are accepted and undone.
use Rattle.std.proofs.Common.{◌≡◌, ℕ, ◌-◌, ◌≤◌, Bool, true, false, List, [], ◌∷◌, ◌++◌, length, take, drop, append_assoc, append-nil, Result, Ok, Err}
use Rattle.std.proofs.Common.{refl, sym, ap, ◌∙◌, arith, ltb, cond, length-append, length-drop, length-take}
use Rattle.std.proofs.lemmas.List.{take-append-drop}
use Rattle.std.proofs.Math.Seq.{take-append_seam, drop-append_seam}
use Rattle.lsdb.specs.Lists.{Lists}
use Rattle.edit_script.specs.declared.edit.Edit.{Edit}
use Rattle.edit_history.specs.declared.fault.EditFault.{EditFault}
use Rattle.edit_history.specs.declared.fault.EditFault.TheVariants.{HistoryFull}
use Rattle.edit_history.specs.Effect.{effect, ◌>>=◌}
use Rattle.edit_history.specs.Session.{Session, state, after_edits, accepted, edited, edited_by, moved_back, moved_on}
use Rattle.edit_history.proofs.Linked.{same_session}

pub seam_take : (k : ℕ) (xs ys : List Edit) → length xs ≡ k → take k (xs ++ ys) ≡ xs
seam_take k xs ys e = ap (λ (n : ℕ). take n (xs ++ ys)) (sym e) ∙ take-append_seam xs ys

pub seam_drop : (k : ℕ) (xs ys : List Edit) → length xs ≡ k → drop k (xs ++ ys) ≡ ys
seam_drop k xs ys e = ap (λ (n : ℕ). drop n (xs ++ ys)) (sym e) ∙ drop-append_seam xs ys

-- undone and redone
pub back_and_on : (s : Session) (k : ℕ) → k ≤ length s.done → moved_on k (moved_back k s) ≡ s
back_and_on s k le =
    let m = length s.done - k in
    let last : length (drop m s.done) ≡ k = omega (arith, length-drop m s.done) in
    same_session (moved_on k (moved_back k s)) s refl
    (ap (λ (es : List Edit). take m s.done ++ es) (seam_take k (drop m s.done) s.undone last) ∙ take-append-drop m s.done)
    (seam_drop k (drop m s.done) s.undone last)

-- redone and undone
pub on_and_back : (s : Session) (k : ℕ) → k ≤ length s.undone → moved_back k (moved_on k s) ≡ s
on_and_back s k le =
    let n = length (s.done ++ take k s.undone) - k in
    let first : length s.done ≡ n = omega (arith, length-append s.done (take k s.undone), length-take k s.undone) in
    same_session (moved_back k (moved_on k s)) s refl
    (seam_take n s.done (take k s.undone) first)
    (ap (λ (es : List Edit). es ++ drop k s.undone) (seam_drop n s.done (take k s.undone) first) ∙ take-append-drop k s.undone)

-- ---- accepted edits

-- the edits are after the done ones
record After (s t : Session) (es : List Edit) : Type 0 where
  pub base : t.base ≡ s.base
  pub done : t.done ≡ s.done ++ es

accepted_after : (s t : Session) (e : Edit) (after : Result Lists EditFault) → accepted s e after ≡ Ok t → After s t (e ∷ [])
accepted_after s t e (Ok db) h = let same : t ≡ record { base = s.base; done = s.done ++ e ∷ []; undone = [] } = cc in
    record { base = ap (λ (x : Session). x.base) same; done = ap (λ (x : Session). x.done) same }
accepted_after s t e (Err fault) h = absurd cc

edited_after : (s t : Session) (e : Edit) → edited s e ≡ Ok t → After s t (e ∷ [])
unfolding edited
edited_after s t e h = by_room (ltb (length s.done) 10000) h where
  by_room : (b : Bool) → cond b (accepted s e (effect (state s) e)) (Err HistoryFull) ≡ Ok t → After s t (e ∷ [])
  by_room true is = accepted_after s t e (effect (state s) e) is
  by_room false is = absurd cc

after_both : (s u t : Session) (e : Edit) (es : List Edit) → After s u (e ∷ []) → After u t es → After s t (e ∷ es)
after_both s u t e es one more =
    record { base = more.base ∙ one.base; done = more.done ∙ ap (λ (ds : List Edit). ds ++ es) one.done ∙ append_assoc s.done (e ∷ []) es }

edits_after : (s t : Session) (es : List Edit) → edited_by s es ≡ Ok t → After s t es
edits_after s t [] h = let same : t ≡ s = (let both : (let r : Result Session EditFault = Ok s in r) ≡ Ok t = h in cc) in
    record { base = ap (λ (x : Session). x.base) same; done = ap (λ (x : Session). x.done) same ∙ sym (append-nil s.done) }
edits_after s t (e ∷ es) h = by_answer (edited s e) refl h (λ u. edits_after u t es) where
  by_answer : (r : Result Session EditFault) → edited s e ≡ r → (r >>= λ u. edited_by u es) ≡ Ok t
      → ((u : Session) → edited_by u es ≡ Ok t → After u t es) → After s t (e ∷ es)
  by_answer (Ok u) is more rest = after_both s u t e es (edited_after s u e is) (rest u more)
  by_answer (Err fault) is more rest = absurd cc

-- undoing the same number of edits as were accepted leads to the database before them
pub edits_back : (s t : Session) (es : List Edit) → edited_by s es ≡ Ok t → state (moved_back (length es) t) ≡ state s
edits_back s t es h =
    let b = edits_after s t es h in
    let n = length t.done - length es in
    let first : length s.done ≡ n = omega (arith, length-append s.done es, ap (λ (ds : List Edit). length ds) b.done) in
    let done : take n t.done ≡ s.done = ap (λ (ds : List Edit). take n ds) b.done ∙ seam_take n s.done es first in
    ap (λ (base : Lists). after_edits base (take n t.done)) b.base ∙ ap (λ (ds : List Edit). after_edits s.base ds) done
