-- What an undo or redo leaves is a study, whether it is carried out or refused.
use Rattle.std.proofs.Common.{◌≡◌, ℕ, ◌+◌, ◌-◌, List, Option, Result, Ok, Err, IfSome, length, take, drop}
use Rattle.std.proofs.Common.{◌∙◌, refl, sym, ap, subst, arith}
use Rattle.std.specs.Prelude.{OnErr, OnOk}
use Rattle.std.proofs.lemmas.List.{length-append, take-append-drop}
use Rattle.lsdb.specs.Lists.{Lists}
use Rattle.lsdb.specs.Slots.{Slots, lists_of}
use Rattle.edit_script.specs.declared.edit.Edit.{Edit}
use Rattle.edit_history.specs.Journal.{HistoryData, Links}
use Rattle.edit_history.specs.Session.{Session, moved_back, moved_on, session_of}
use Rattle.edit_history.proofs.HistoryLemmas.{done_len, undone_len}
use Rattle.recalculate.specs.Reached.{IsStudied}

abbrev edit_count : Session → ℕ
edit_count s = length s.done + length s.undone

parts : (n : ℕ) (es : List Edit) → length es ≡ length (take n es) + length (drop n es)
parts n es = ap (λ (l : List Edit). length l) (sym (take-append-drop n es)) ∙ length-append (take n es) (drop n es)

back_count : (k : ℕ) (s : Session) → edit_count (moved_back k s) ≡ edit_count s
back_count k s =
    let n : ℕ = length s.done - k in
    omega (arith, parts n s.done, length-append (drop n s.done) s.undone)

on_count : (k : ℕ) (s : Session) → edit_count (moved_on k s) ≡ edit_count s
on_count k s = omega (arith, parts k s.undone, length-append s.done (take k s.undone))

module _ (d e : Slots) (h k : HistoryData) (copy : Option Slots) (links : Links e k) where
  -- it led to a session of the same base, with the same number of edits
  led : (s : Session) → session_of e k ≡ s → s.base ≡ (session_of d h).base → edit_count s ≡ edit_count (session_of d h)
      → IsStudied d h copy → IsStudied e k copy
  led s is base edits studied = record {
    links = links;
    few = omega (
      arith,
      done_len d h,
      undone_len d h,
      done_len e k,
      undone_len e k,
      ap (λ (t : Session). length t.done) is,
      ap (λ (t : Session). length t.undone) is,
      edits,
      studied.few,
    );
    loaded = subst (λ (db : Lists). IfSome copy (λ slots. lists_of slots ≡ db)) (sym (ap (λ (t : Session). t.base) is ∙ base)) studied.loaded;
  }

  abbrev IsSame : Type 0
  IsSame = (k ≡ h) × (e ≡ d)

  refused : IsSame → IsStudied d h copy → IsStudied e k copy
  refused same studied =
      led (session_of d h) (ap (λ (x : HistoryData). session_of e x) same.0 ∙ ap (λ (p : Slots). session_of p h) same.1) refl refl studied

  pub undo_studied : {T E : Type 0} (r : Result T E) (count : ℕ) → OnOk r (session_of e k ≡ moved_back count (session_of d h)) → OnErr r IsSame
      → IsStudied d h copy → IsStudied e k copy
  undo_studied (Ok x) count session same studied =
      led (moved_back count (session_of d h)) session refl (back_count count (session_of d h)) studied
  undo_studied (Err fault) count session same studied = refused same studied

  pub redo_studied : {T E : Type 0} (r : Result T E) (count : ℕ) → OnOk r (session_of e k ≡ moved_on count (session_of d h)) → OnErr r IsSame
      → IsStudied d h copy → IsStudied e k copy
  redo_studied (Ok x) count session same studied =
      led (moved_on count (session_of d h)) session refl (on_count count (session_of d h)) studied
  redo_studied (Err fault) count session same studied = refused same studied
