use Rattle.std.proofs.Common.{◌≡◌, ◌-◌, ◌<◌, ◌≤◌, false, length, replicate, drop, arith, subst, ◌∙◌}
use Rattle.std.proofs.lemmas.List.{take_at}
use Rattle.least_paths.proofs.Marking.{AreMarks-all, MarkedFrom, MarkedFrom-start, MarkedFrom-turn}
use Rattle.least_paths.proofs.marks.marks.Goals as goal

pub loop-i-init : goal.loop-i-init
loop-i-init g c =
    let new = c.mark_targets.new.marks in
    let none : c.deref_mut.result.now ≡ replicate c.len.result false =
    c.deref_mut.ensures.value ∙ c.in_ok-marks.ensures.items_if_clones_equal (λ n same. same) in
    let count : length new ≡ c.in_ok-marks.marks.len = omega (arith, c.mark_targets.ensures.sized, c.deref_mut.ensures.len, c.in_ok-marks.marks.ok) in (
      omega arith,
      λ root of. MarkedFrom-start c.args.graph.now c.len.ensures.shape root c.args.tree.now of c.args.targets.now c.len.result
          c.deref_mut.result.now new _ c.order-order.result.now c.len.ensures.count none c.order-order.ensures.order
          (take_at new (drop (length new) c.in_ok-marks.marks.items) c.in_ok-marks.marks.len count) c.mark_targets.ensures,
    )

pub loop-i-preserved : goal.loop-i-preserved
loop-i-preserved g c =
    let new = c.mark_from.new.marks in
    let some : 0 < c.loop-i.i = c.loop-i-test.true in
    let low : c.loop-i.i ≤ length c.order-order.result.now = c.loop-i.invariant.0 in
    let count : length new ≡ c.loop-i.marks.len = omega (arith, c.mark_from.ensures.sized, c.deref_mut-in-loop-i.ensures.len, c.loop-i.marks.ok) in (
      omega arith,
      λ root of. MarkedFrom-turn c.args.graph.now c.len.ensures.shape root c.args.tree.now of c.args.targets.now c.loop-i.i c.from.result
          c.order-order.result.now c.loop-i.marks.items c.deref_mut-in-loop-i.result.now new _ c.order-order.ensures.order some low
          c.from.ensures (c.loop-i.invariant.1 root of) c.deref_mut-in-loop-i.ensures.value
          (take_at new (drop (length new) c.loop-i.marks.items) c.loop-i.marks.len count) c.mark_from.ensures,
    )

pub returns : goal.returns
returns g c = λ root of.
    let end : c.loop-i.i ≡ 0 = omega arith in
    AreMarks-all c.args.graph.now c.len.ensures.shape root c.args.tree.now of c.args.targets.now c.loop-i.marks.items
    (subst (λ k. MarkedFrom c.args.graph.now root c.args.tree.now c.args.targets.now k c.loop-i.marks.items) end (c.loop-i.invariant.1 root of))

pub mark_from-requires : goal.mark_from-requires
mark_from-requires g c =
    let of = c.requires.tree.1 in
    let some : 0 < c.loop-i.i = c.loop-i-test.true in
    let low : c.loop-i.i ≤ length c.order-order.result.now = c.loop-i.invariant.0 in
    let within : c.loop-i.i - 1 < length c.order-order.result.now = omega arith in
    let sized = (c.loop-i.invariant.1 c.requires.tree.0 of).sized in
    let here = c.order-order.ensures.within (c.loop-i.i - 1) 0 within in
    record {
      from = omega (arith, here, of.sized, c.from.ensures);
      sized = omega (arith, c.deref_mut-in-loop-i.ensures.len, sized);
      measured = of.sized;
    }
