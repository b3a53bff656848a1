use Rattle.std.proofs.Common.{[], List, ◌++◌, ap, ◌∙◌}
use Rattle.change_lines.specs.Groups.{in_group}
use Rattle.change_lines.specs.declared.change_name.ChangeName.{ChangeName}
use Rattle.change_lines.specs.declared.group.ChangeGroup.{ChangeGroup}
use Rattle.change_lines.specs.declared.group.ChangeGroup.TheVariants.{RouterGone}
use Rattle.change_lines.proofs.Added.{all_added, one_more_at}
use Rattle.change_lines.proofs.changes.by_group.Goals as goal

pub loop-group-preserved : goal.loop-group-preserved
loop-group-preserved g c =
    one_more_at (λ (group : ChangeGroup). in_group group c.args.names.now) [] c.args.groups.now c.loop-group.group-index RouterGone c.loop-group.found.items _
    c.loop-group-test.true c.loop-group.invariant
    (c.in_ok-append.ensures.items ∙ ap (λ (l : List ChangeName). c.loop-group.found.items ++ l) c.in_ok-members.ensures)

pub returns : goal.returns
returns g c =
    all_added (λ (group : ChangeGroup). in_group group c.args.names.now) [] c.args.groups.now c.loop-group.group-index c.loop-group.found.items
    c.loop-group-test.false c.loop-group.invariant
