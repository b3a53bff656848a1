use Rattle.std.proofs.Common.{◌≡◌, IfOk, ap, subst, ◌∙◌}
use Rattle.network_names.specs.Names.{called}
use Rattle.lsdb.specs.Lists.{Lists}
use Rattle.lsdb.specs.Slots.{lists_of}
use Rattle.edit_history.specs.Session.{state}
use Rattle.branches.specs.Branches.{Sessions, sessions_of}
use Rattle.study_questions.specs.AuditAnswers.{audit_answer}
use Rattle.study_questions.proofs.audit.audit.Goals as goal

pub returns-clause-answer : goal.returns-clause-answer
returns-clause-answer g c =
    let called = called c.args.names.now in
    let branch = c.args.branch in
    let base = (sessions_of c.args.branches.now branch).base in
    subst (λ (db : Lists). IfOk c.audit_answer.result (λ answer. answer ≡ audit_answer called branch base db c.args.kind))
    (c.database-now.ensures.state ∙ ap state (c.planner.ensures
    ∙ ap (λ (all : Sessions). all branch) (c.in_ok-prepare.ensures.kept ∙ c.in_ok-loaded.ensures.kept)))
    (subst (λ (loaded : Lists). IfOk c.audit_answer.result (λ answer. answer
    ≡ audit_answer called branch loaded (lists_of c.database-now.result.now) c.args.kind))
    c.in_ok-loaded.ensures.database c.audit_answer.ensures)
