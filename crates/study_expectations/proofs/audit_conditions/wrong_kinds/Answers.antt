use Rattle.std.proofs.Common.{◌≡◌, IfOk, ap, subst, ◌∙◌}
use Rattle.lsdb.specs.Lists.{Lists}
use Rattle.lsdb.specs.Slots.{lists_of}
use Rattle.edit_history.specs.Session.{state}
use Rattle.branches.specs.Branches.{Sessions, sessions_of}
use Rattle.audit_report.specs.Expected.{wrong_counts}
use Rattle.audit_report.specs.Findings.{FindingValue, audit}
use Rattle.study_expectations.proofs.audit_conditions.wrong_kinds.Goals as goal
use Rattle.std.specs.Prelude.{List}

pub returns-clause-counts : goal.returns-clause-counts
returns-clause-counts g c =
    let branch = c.args.branch in
    let base = (sessions_of c.args.branches.now branch).base in
    subst (λ (findings : List FindingValue). IfOk c.wrong.result (λ counts. counts.items ≡ wrong_counts findings))
    (c.in_ok-audit.ensures
    ∙ ap (λ (loaded : Lists). audit loaded (lists_of c.database-now.result.now)) c.in_ok-loaded.ensures.database
    ∙ ap (audit base) (c.database-now.ensures.state ∙ ap state (c.planner.ensures
    ∙ ap (λ (all : Sessions). all branch) (c.in_ok-prepare.ensures.kept ∙ c.in_ok-loaded.ensures.kept))))
    c.wrong.ensures
