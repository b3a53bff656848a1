use Rattle.std.proofs.Common.{rules}
use Rattle.network_names.specs.Names.{called}
use Rattle.study_text.proofs.Joined.{all_items, one_more}
use Rattle.study_text.proofs.list.push_more.Goals as goal

pub loop-item-preserved : goal.loop-item-preserved
loop-item-preserved g c =
    one_more (g.T.Shown.shown_as (called c.args.names.now)) c.args.mark.now c.args.text.now.items c.args.items.now
    c.loop-item.item-index c.item-item.result c.loop-item.text.items _ _ c.loop-item-test.true c.item-item.is c.loop-item.invariant
    (search rules) c.in_ok-push_to.ensures

pub returns : goal.returns
returns g c =
    all_items (g.T.Shown.shown_as (called c.args.names.now)) c.args.mark.now c.args.text.now.items c.args.items.now
    c.loop-item.item-index c.loop-item.text.items c.loop-item-test.false c.loop-item.invariant
