use Rattle.std.proofs.Common.{◌≡◌, List, IfOk, subst, ◌∙◌}
use Rattle.audit_report.specs.declared.counts.KindCount.{KindCount}
use Rattle.study_expectations.specs.AuditVerdicts.{listed_of, listed_verdict}
use Rattle.study_expectations.specs.steps.Verdicts.{verdict_of}
use Rattle.study_expectations.proofs.audit_conditions.only_findings.Goals as goal

pub returns-clause-verdict : goal.returns-clause-verdict
unfolding listed_verdict
returns-clause-verdict g c =
    subst (λ (counts : List KindCount). IfOk c.listed_of.result (λ v. verdict_of v ≡ listed_of c.args.kinds.now counts))
    (c.deref.ensures.value ∙ c.in_ok-counts.ensures.counts) c.listed_of.ensures
