use Rattle.change_lines.specs.declared.group.ChangeGroup.TheVariants.{RouterGone}
use Rattle.study_json.proofs.ChangeCounts.{count_more, count_numbers}
use Rattle.study_json.proofs.change_json.push_counts.Goals as goal

pub loop-group-preserved : goal.loop-group-preserved
loop-group-preserved g c = record {
  pushed =
      count_more c.args.names.now c.args.text.now.items c.args.groups.now c.loop-group.group-index RouterGone c.loop-group.text.items _
      c.loop-group-test.true c.loop-group.invariant.pushed c.in_ok-push_count.ensures.pushed;
  numbers =
      count_numbers c.args.names.now c.args.groups.now c.loop-group.group-index RouterGone c.loop-group-test.true
      c.loop-group.invariant.numbers c.in_ok-push_count.ensures.numbers;
}
