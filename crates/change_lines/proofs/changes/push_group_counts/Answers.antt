use Rattle.change_lines.specs.ChangeTexts.{group_count}
use Rattle.change_lines.specs.declared.group.ChangeGroup.TheVariants.{RouterGone}
use Rattle.change_lines.proofs.Added.{all_added, one_more_at}
use Rattle.change_lines.proofs.changes.push_group_counts.Goals as goal

pub loop-group-preserved : goal.loop-group-preserved
loop-group-preserved g c =
    one_more_at (group_count c.args.names.now) c.args.text.now.items c.args.groups.now c.loop-group.group-index RouterGone c.loop-group.text.items _
    c.loop-group-test.true c.loop-group.invariant c.in_ok-push_count.ensures

pub returns : goal.returns
returns g c =
    all_added (group_count c.args.names.now) c.args.text.now.items c.args.groups.now c.loop-group.group-index c.loop-group.text.items
    c.loop-group-test.false c.loop-group.invariant
