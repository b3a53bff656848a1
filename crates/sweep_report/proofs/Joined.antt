-- Lists of lines join, and get one line more.
use Rattle.std.proofs.Common.{◌≡◌, ℕ, ◌+◌, ◌<◌, List, [], ◌∷◌, ◌++◌, length, take, get_or, sym, ap, ◌∙◌, subst}
use Rattle.std.proofs.lemmas.List.{take_more}
use Rattle.lsdb.specs.Lists.{Lists}
use Rattle.edit_script.specs.declared.edit.Edit.{Edit}
use Rattle.sweep_report.specs.declared.outcome.FailureLine.{FailureLine}
use Rattle.sweep_report.specs.Sweeps.{AreLines, IsLineOf}

module _ (db : Lists) where
  pub joined : (edits more : List Edit) (lines others : List FailureLine) → AreLines db edits lines → AreLines db more others
      → AreLines db (edits ++ more) (lines ++ others)
  joined [] more [] others are also = also
  joined [] more (l ∷ ls) others are also = absurd are
  joined (e ∷ es) more [] others are also = absurd are
  joined (e ∷ es) more (l ∷ ls) others are also = (are.0, joined es more ls others are.1 also)

  -- a loop's step at place i
  pub one_more : (edits : List Edit) (i : ℕ) (edit : Edit) (line : FailureLine) (lines next : List FailureLine) → i < length edits
      → edit ≡ get_or edits i edit → AreLines db (take i edits) lines → IsLineOf db edit line → next ≡ lines ++ line ∷ []
      → AreLines db (take (i + 1) edits) next
  one_more edits i edit line lines next lt item are is pushed =
      subst (λ (ls : List FailureLine). AreLines db (take (i + 1) edits) ls) (sym pushed)
      (subst (λ (es : List Edit). AreLines db es (lines ++ line ∷ []))
      (ap (λ (e : Edit). take i edits ++ e ∷ []) item ∙ sym (take_more edits i edit lt))
      (joined (take i edits) (edit ∷ []) lines (line ∷ []) are (is, tt)))
