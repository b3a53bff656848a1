use Rattle.study_json.proofs.Arrays.{all_items, numbers_all, numbers_more, one_more}
use Rattle.study_json.proofs.array.push_after_commas.Goals as goal

pub loop-item-preserved : goal.loop-item-preserved
loop-item-preserved g c =
    let json = g.T.Document.json_as in
    record {
      pushed =
          one_more json c.args.text.now.items c.args.items.now c.loop-item.item-index c.item-item.result c.loop-item.text.items _ _
          c.loop-item-test.true c.item-item.is c.loop-item.invariant.pushed c.in_ok-push_word.ensures c.in_ok-push_json.ensures.pushed;
      numbers =
          numbers_more json c.args.items.now c.loop-item.item-index c.item-item.result c.loop-item-test.true c.item-item.is
          c.loop-item.invariant.numbers c.in_ok-push_json.ensures.numbers;
    }

pub returns-clause-pushed : goal.returns-clause-pushed
returns-clause-pushed g c =
    all_items g.T.Document.json_as c.args.text.now.items c.args.items.now
    c.loop-item.item-index c.loop-item.text.items c.loop-item-test.false c.loop-item.invariant.pushed

pub returns-clause-numbers : goal.returns-clause-numbers
returns-clause-numbers g c =
    numbers_all g.T.Document.json_as c.args.items.now c.loop-item.item-index c.loop-item-test.false
    c.loop-item.invariant.numbers
