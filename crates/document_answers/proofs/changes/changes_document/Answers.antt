use Rattle.std.proofs.Common.{[], ◌∷◌, None, Some, sym, ◌∙◌}
use Rattle.std.proofs.lemmas.Result.{IfOk-weaker}
use Rattle.lsdb.specs.Slots.{lists_of}
use Rattle.comparison.specs.Named.{changes_for}
use Rattle.study_answers.specs.Missing.{beside}
use Rattle.document_answers.specs.ChangeDocuments.{IsChangesDocument, changes_members}
use Rattle.document_answers.specs.Documented.{HasMembers, documented}
use Rattle.document_answers.proofs.Changed.{for_all, for_one}
use Rattle.document_answers.proofs.changes.changes_document.Goals as goal

pub returns-in-Some : goal.returns-in-Some
returns-in-Some g c =
    let baseline = lists_of c.args.baseline.now in
    let db = lists_of c.args.database.now in
    IfOk-weaker c.changes_of_router.result
    (λ given. HasMembers (changes_members baseline db (Some c.in-Some.one) (changes_for (beside baseline db) (c.in-Some.one ∷ []))) (documented given))
    (λ given. IsChangesDocument baseline db c.args.router (documented given))
    (λ given has. for_one baseline db c.args.router c.in-Some.one (documented given) c.in-Some.is
    (sym c.in_ok-is_known.ensures ∙ c.if-not-branch.false) has)
    c.changes_of_router.ensures

pub returns : goal.returns
returns g c =
    let baseline = lists_of c.args.baseline.now in
    let db = lists_of c.args.database.now in
    let both = c.in_ok-both.both in
    IfOk-weaker c.changes_by.result
    (λ given. HasMembers (changes_members both.baseline both.present None c.in_ok-changes.changes) (documented given))
    (λ given. IsChangesDocument baseline db c.args.router (documented given))
    (λ given has. for_all baseline db both c.in_ok-both.ensures c.args.router c.in_ok-changes.changes (documented given) c.in_default.is
    c.in_ok-changes.ensures has)
    c.changes_by.ensures
