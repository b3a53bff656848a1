use Rattle.std.proofs.Common.{◌≡◌, ℕ, List, [], ◌∷◌, ◌++◌, Some, ◌∙◌, ap, subst}
use Rattle.lsdb.specs.Slots.{lists_of}
use Rattle.change_lines.specs.ChangeTexts.{ChangeLineValue, ChangesValue}
use Rattle.comparison.specs.Named.{changes_for}
use Rattle.change_report.specs.Lines.{lines_of_changes}
use Rattle.study_answers.specs.Missing.{beside}
use Rattle.study_json.specs.Fields.{Fields, HaveNumbers, more_text}
use Rattle.study_documents.specs.Replies.{changes_reply}
use Rattle.document_answers.specs.ChangeDocuments.{changes_members}
use Rattle.document_answers.proofs.changes.changes_of_router.Goals as goal

pub returns : goal.returns
returns g c =
    let baseline = lists_of c.args.baseline.now in
    let db = lists_of c.args.database.now in
    let one = Some c.args.router in
    let changes = c.in_ok-changes.changes in
    let lines : c.deref.result.now ≡ lines_of_changes (beside baseline db) changes.names = c.deref.ensures.value ∙ c.in_ok-changes.ensures.lines in
    let fields : changes_reply one changes c.deref.result.now ≡ changes_members baseline db one (changes_for (beside baseline db) (c.args.router ∷ [])) =
    ap (λ (ls : List ChangeLineValue). changes_reply one changes ls) lines
    ∙ ap (λ (v : ChangesValue). changes_members baseline db one v) c.in_ok-changes.ensures.changes in
    record {
      text =
          c.in_ok-push_changes.ensures.pushed
          ∙ ap (λ (t : List ℕ). t ++ more_text (changes_reply one changes c.deref.result.now)) c.new-text.ensures.items
          ∙ ap more_text fields;
      numbers = subst (λ (f : Fields). HaveNumbers f) fields c.in_ok-push_changes.ensures.numbers;
    }
