use Rattle.std.proofs.Common.{◌∙◌, take, subst, arith}
use Rattle.std.specs.Option.{option_copied}
use Rattle.std.specs.String.{string_bytes}
use Rattle.std.proofs.lemmas.List.{length-take-le}
use Rattle.best_ways.specs.Routes.{route_to}
use Rattle.table_report.specs.Comparing.{change, change_at}
use Rattle.table_report.specs.steps.Lines.{AddsLine}
use Rattle.table_report.proofs.Added.{count_added, count_same, lines_are, no_more}
use Rattle.table_report.proofs.compare.changes_by_prefix.Goals as goal
use Rattle.table_report.proofs.compare.changes_by_prefix.Goals.{then-branch, else-branch}

pub overflow_add-count : goal.overflow_add-count
overflow_add-count g c =
    let nets = c.as_slice-net-items.result.now in
    let i = c.loop-net.net-index in
    omega (
      arith,
      c.loop-net.invariant.1,
      no_more (change_at c.args.before.now c.args.now.now) (take i nets),
      length-take-le i nets (omega (arith, c.loop-net-test.true)),
      c.loop-net-test.true,
      c.loop-net.auto.net-index-end,
    )

pub loop-net-preserved : goal.loop-net-preserved
loop-net-preserved g c =
    let before = c.args.before.now in
    let now = c.args.now.now in
    let nets = c.as_slice-net-items.result.now in
    let i = c.loop-net.net-index in
    let net = c.net-item.result in
    let line = change_at before now in
    let old = string_bytes c.loop-net.lines in
    let new = string_bytes c.push_change.new.lines in
    let added = c.in_ok-push_change.field-0 in
    let adds : AddsLine (change_at before now net) old added new =
    subst (λ o. AddsLine (change (route_to before net) o) old added new) c.route_near-route_now.ensures
    (subst (λ o. AddsLine (change o (option_copied c.route_near-route_now.result)) old added new) c.route_near-route_before.ensures
    c.in_ok-push_change.ensures) in (
      lines_are line nets i net c.loop-net-test.true c.net-item.is old new added adds c.loop-net.invariant.0,
      elim c.if-branch.branch [
        | then-branch w ↦
            let t = w.if-branch in
            w.count-is ∙ count_added line nets i net c.loop-net-test.true c.net-item.is old new added adds c.loop-net.count t.true c.loop-net.invariant.1
        | else-branch w ↦
            let t = w.if-branch in
            w.count-is ∙ count_same line nets i net c.loop-net-test.true c.net-item.is old new added adds c.loop-net.count t.false c.loop-net.invariant.1
      ],
    )
