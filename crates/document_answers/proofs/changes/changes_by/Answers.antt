use Rattle.std.proofs.Common.{◌≡◌, ℕ, List, ◌++◌, None, ◌∙◌, ap, subst}
use Rattle.change_lines.specs.ChangeTexts.{ChangeLineValue}
use Rattle.change_report.specs.Lines.{lines_of_changes}
use Rattle.study_json.specs.Fields.{HaveNumbers, more_text}
use Rattle.study_documents.specs.Replies.{changes_reply}
use Rattle.document_answers.proofs.changes.changes_by.Goals as goal

pub returns : goal.returns
returns g c =
    let both = c.args.both.now in
    let changes = c.args.changes.now in
    let lines : c.deref-2.result.now ≡ lines_of_changes both changes.names =
    c.deref-2.ensures.value
    ∙ c.in_ok-lines.ensures
    ∙ ap (lines_of_changes both) (c.deref.ensures.value ∙ ap (λ v. v.names) c.changes.view_is) in
    record {
      text =
          c.in_ok-push_changes.ensures.pushed
          ∙ ap (λ (t : List ℕ). t ++ more_text (changes_reply None changes c.deref-2.result.now)) c.new-text.ensures.items
          ∙ ap (λ (ls : List ChangeLineValue). more_text (changes_reply None changes ls)) lines;
      numbers = subst (λ (ls : List ChangeLineValue). HaveNumbers (changes_reply None changes ls)) lines c.in_ok-push_changes.ensures.numbers;
    }
