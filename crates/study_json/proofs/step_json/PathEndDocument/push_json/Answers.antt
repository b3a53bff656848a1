use Rattle.route_lines.specs.PathTexts.{end_text}
use Rattle.study_json.proofs.Plain.{between_quotes, end_plain}
use Rattle.study_json.proofs.step_json.PathEndDocument.push_json.Goals as goal

pub returns-clause-pushed : goal.returns-clause-pushed
returns-clause-pushed g c =
    between_quotes c.push_word-2.result c.args.text.now.items _ (end_text c.args.self.now) _ _ (end_plain c.args.self.now)
    c.in_ok-push_word.ensures c.in_ok-push_to.ensures c.push_word-2.ensures
