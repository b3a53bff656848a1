use Rattle.std.proofs.Common.{IfOk, ap, subst, ◌∙◌}
use Rattle.lsdb.specs.Lists.{Lists}
use Rattle.lsdb.specs.Slots.{lists_of}
use Rattle.edit_history.specs.Session.{state}
use Rattle.branches.specs.Branches.{Sessions, sessions_of}
use Rattle.document_answers.specs.AuditDocuments.{IsAuditDocument}
use Rattle.document_answers.specs.Documented.{documented}
use Rattle.document_answers.proofs.audit.audit_document.Goals as goal

pub returns-clause-document : goal.returns-clause-document
returns-clause-document g c =
    let base = (sessions_of c.args.branches.now c.args.branch).base in
    subst (λ (db : Lists). IfOk c.audit_by.result (λ given. IsAuditDocument base db c.args.kind (documented given)))
    (c.database-now.ensures.state ∙ ap state (c.planner.ensures
    ∙ ap (λ (all : Sessions). all c.args.branch) (c.in_ok-prepare.ensures.kept ∙ c.in_ok-loaded.ensures.kept)))
    (subst (λ (loaded : Lists). IfOk c.audit_by.result (λ given. IsAuditDocument loaded (lists_of c.database-now.result.now) c.args.kind (documented given)))
    c.in_ok-loaded.ensures.database c.audit_by.ensures)
