use Rattle.study_json.proofs.Arrays.{array_numbers, array_text}
use Rattle.study_json.proofs.Outcomes.{always, on_ok}
use Rattle.study_json.proofs.array.push_array.Goals as goal

pub returns-clause-pushed : goal.returns-clause-pushed
returns-clause-pushed g c =
    on_ok c.push_word-3.result
    (λ ended. array_text g.T.Document.json_as c.args.text.now.items _ _ _ _ c.in-Some.first.now
    c.in-Some.more.now c.args.items.now c.in_ok-push_word.ensures c.in_ok-push_json.ensures.pushed
    c.in_ok-push_after_commas.ensures.pushed ended c.in-Some.ensures.cases.0)
    c.push_word-3.ensures

pub returns-clause-numbers : goal.returns-clause-numbers
returns-clause-numbers g c =
    always c.push_word-3.result
    (array_numbers g.T.Document.json_as c.in-Some.first.now c.in-Some.more.now c.args.items.now
    c.in_ok-push_json.ensures.numbers c.in_ok-push_after_commas.ensures.numbers c.in-Some.ensures.cases.0)
