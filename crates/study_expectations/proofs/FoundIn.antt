-- What is found of a condition, where it is found by something that equals what the session has.
use Rattle.std.proofs.Common.{◌≡◌, ℕ, IfOk, sym, ap, subst, ◌∙◌}
use Rattle.std.specs.Prelude.{Result}
use Rattle.std.proofs.lemmas.Result.{IfOk-weaker}
use Rattle.lsdb.specs.Lists.{Lists}
use Rattle.edit_history.specs.Session.{Session, state}
use Rattle.branches.specs.Branches.{Sessions}
use Rattle.study_script.specs.Expected.{expected}
use Rattle.study_script.specs.declared.condition.Condition.{Condition}
use Rattle.study_text.specs.Shown.{Called}
use Rattle.study_expectations.specs.declared.verdict.Verdict.{Verdict}
use Rattle.study_expectations.specs.Expectations.{IsVerdict}
use Rattle.study_expectations.specs.Verdicts.{VerdictValue}
use Rattle.study_expectations.specs.steps.Verdicts.{verdict_of}

-- the database of a planner is that of the session, after the branch was prepared
pub state_of : (branch : ℕ) {db : Lists} {p : Session} {before now : Sessions} → db ≡ state p → p ≡ before branch → before ≡ now → db ≡ state (now branch)
state_of branch at planned kept = at ∙ ap state (planned ∙ ap (λ (all : Sessions). all branch) kept)

module _ (called : Called) (baseline : Lists) where
  pub found : {E A X : Type 0} (s : Session) (result : Result (Verdict A) E) (given condition : Condition A) (x y : X) (IsFound : X → VerdictValue → Type 0)
      → given ≡ condition → x ≡ y → ((verdict : VerdictValue) → IsFound y verdict → IsVerdict called baseline s (expected condition) verdict)
      → IfOk result (λ v. IsFound x (verdict_of v)) → IfOk result (λ v. IsVerdict called baseline s (expected given) (verdict_of v))
  found {E} {A} {X} s result given condition x y IsFound is same means there =
      subst (λ (c : Condition A). IfOk result (λ v. IsVerdict called baseline s (expected c) (verdict_of v))) (sym is)
      (IfOk-weaker result (λ v. IsFound y (verdict_of v)) (λ v. IsVerdict called baseline s (expected condition) (verdict_of v)) (λ v. means (verdict_of v))
      (subst (λ (z : X). IfOk result (λ v. IsFound z (verdict_of v))) same there))

  -- by the database of the session
  pub found_in : {E A : Type 0} (s : Session) (result : Result (Verdict A) E) (IsFound : Called → Lists → Lists → VerdictValue → Type 0)
      {given condition : Condition A} {db : Lists} → given ≡ condition → db ≡ state s
      → ((v : VerdictValue) → IsFound called baseline (state s) v → IsVerdict called baseline s (expected condition) v)
      → IfOk result (λ v. IsFound called baseline db (verdict_of v)) → IfOk result (λ v. IsVerdict called baseline s (expected given) (verdict_of v))
  found_in s result IsFound {given} {condition} {db} is at means = found s result given condition db (state s) (IsFound called baseline) is at means
