use Rattle.std.proofs.Common.{◌≡◌, List, IfOk, subst, ◌∙◌}
use Rattle.audit_report.specs.declared.counts.KindCount.{KindCount}
use Rattle.study_expectations.specs.AuditVerdicts.{clean_of, clean_verdict}
use Rattle.study_expectations.specs.steps.Verdicts.{verdict_of}
use Rattle.study_expectations.proofs.audit_conditions.clean_audit.Goals as goal

pub returns-clause-verdict : goal.returns-clause-verdict
unfolding clean_verdict
returns-clause-verdict g c =
    subst (λ (counts : List KindCount). IfOk c.clean_of.result (λ v. verdict_of v ≡ clean_of counts))
    (c.deref.ensures.value ∙ c.in_ok-counts.ensures.counts) c.clean_of.ensures
