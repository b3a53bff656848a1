use Rattle.std.proofs.Common.{ap, ◌∙◌}
use Rattle.change_lines.specs.ChangeTexts.{ChangesValue}
use Rattle.study_json.proofs.ChangeCounts.{counts_shown}
use Rattle.study_json.proofs.Outcomes.{on_ok}
use Rattle.study_json.proofs.change_json.CountsDocument.push_json.Goals as goal

pub returns-clause-pushed : goal.returns-clause-pushed
returns-clause-pushed g c =
    on_ok c.push_word-3.result
    (counts_shown c.args.self.now.0.now c.deref.result.now c.all.result.now c.changes.inside.unchanged c.args.text.now.items
    c.push_word.new.text.items c.push_counts.new.text.items c.push_string.new.text.items c.push_word-2.new.text.items
    c.push_json.new.text.items c.push_word-3.new.text.items
    (c.deref.ensures.value ∙ ap (λ (v : ChangesValue). v.names) c.changes.view_is) c.all.ensures
    (ap (λ (v : ChangesValue). v.unchanged) c.changes.view_is) c.in_ok-push_word.ensures
    c.in_ok-push_counts.ensures.pushed c.in_ok-push_string.ensures c.in_ok-push_word-2.ensures c.in_ok-push_json.ensures.pushed)
    c.push_word-3.ensures
