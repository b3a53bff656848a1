-- What a line is answered, and the study after it, by what the line means.
use Rattle.std.proofs.Common.{◌≡◌, ℕ, List, Option, None, Some, Result, Ok, Err, IfOk, OnOk, refl, ap, subst, sym}
use Rattle.edit_history.specs.Session.{Session}
use Rattle.branches.specs.Branches.{Sessions}
use Rattle.study_arguments.specs.Fault.{FaultAt}
use Rattle.study_script.specs.Line.{Asked}
use Rattle.study_answers.specs.Answers.{AnswerValue}
use Rattle.study_session.specs.Contexts.{ContextValue, context_in}
use Rattle.study_session.specs.Studies.{Study}
use Rattle.study_session.specs.Lines.{IsAnswerBy, IsAnswerIn, faulty, sessions_by, sessions_in}

module _ (s : Study) (meant : Result (Option (ℕ × Asked)) FaultAt) where
  -- nothing is asked for
  pub none_answered : (line : List ℕ) → meant ≡ Ok None → IsAnswerBy s line meant None
  none_answered line is = subst (λ (m : Result (Option (ℕ × Asked)) FaultAt). IsAnswerBy s line m None) (sym is) refl

  pub none_after : meant ≡ Ok None → s.sessions ≡ sessions_by meant s.sessions
  none_after is = ap (λ (m : Result (Option (ℕ × Asked)) FaultAt). sessions_by m s.sessions) (sym is)

  -- something is asked for in a branch
  module _ (branch : ℕ) (asked : Asked) (is : meant ≡ Ok (Some (branch, asked))) where
    pub some_answered : (line : List ℕ) (answer : AnswerValue) → IsAnswerIn (context_in s branch line) (s.sessions branch) asked answer
        → IsAnswerBy s line meant (Some answer)
    some_answered line answer answered = subst (λ (m : Result (Option (ℕ × Asked)) FaultAt). IsAnswerBy s line m (Some answer)) (sym is) answered

    pub some_after : sessions_in branch asked s.sessions ≡ sessions_by meant s.sessions
    some_after = ap (λ (m : Result (Option (ℕ × Asked)) FaultAt). sessions_by m s.sessions) (sym is)

  -- the line has a fault
  module _ (fault : FaultAt) (is : meant ≡ Err fault) where
    pub fault_answered : (line : List ℕ) (answer : AnswerValue) → answer ≡ faulty s.format s.lookup s.known line fault → IsAnswerBy s line meant (Some answer)
    fault_answered line answer of =
        subst (λ (m : Result (Option (ℕ × Asked)) FaultAt). IsAnswerBy s line m (Some answer)) (sym is) (ap (λ (a : AnswerValue). Some a) of)

    pub fault_after : s.sessions ≡ sessions_by meant s.sessions
    fault_after = ap (λ (m : Result (Option (ℕ × Asked)) FaultAt). sessions_by m s.sessions) (sym is)

-- what is asked for, by the command
pub answered : {E : Type 0} (x : ContextValue) (s : Session) (result : Result AnswerValue E) {given what : Asked} → given ≡ what
    → IfOk result (IsAnswerIn x s what) → IfOk result (IsAnswerIn x s given)
answered x s result is = subst (λ (a : Asked). IfOk result (IsAnswerIn x s a)) (sym is)

module _ (branch : ℕ) (all after : Sessions) where
  pub left_by : {given what : Asked} → given ≡ what → after ≡ sessions_in branch what all → after ≡ sessions_in branch given all
  left_by is = subst (λ (a : Asked). after ≡ sessions_in branch a all) (sym is)

  pub left : {T E : Type 0} (result : Result T E) {given what : Asked} → given ≡ what
      → OnOk result (after ≡ sessions_in branch what all) → OnOk result (after ≡ sessions_in branch given all)
  left result is = subst (λ (a : Asked). OnOk result (after ≡ sessions_in branch a all)) (sym is)
