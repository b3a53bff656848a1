use Rattle.std.proofs.Common.{◌≡◌, ◌≤◌, ◌+◌, length, refl, ap, ◌∙◌, arith}
use Rattle.lsdb.specs.Slots.{Slots}
use Rattle.edit_history.specs.Session.{Session, session_of}
use Rattle.test_databases.specs.Edited.{movable}
use Rattle.test_databases.proofs.Moves.{none_left, count, movable_len, one_more, all_moved, one_fewer}
use Rattle.test_databases.proofs.edited.move_by.Goals as goal

pub loop-step-preserved : goal.loop-step-preserved
loop-step-preserved g c =
    let kept = c.loop-step.invariant in
    let way = c.args.way in
    let some : 1 ≤ length (movable way c.loop-step.history.lists) = c.in_ok-move_one.ensures.ok.0 refl in
    let first : Session = session_of c.args.database.now c.args.history.now.lists in
    let now : Session = session_of c.loop-step.database c.loop-step.history.lists in
    let next : Session = session_of c.move_one.new.database c.move_one.new.history.lists in
    let there = movable_len way c.args.database.now c.args.history.now.lists in
    let here = movable_len way c.loop-step.database c.loop-step.history.lists in
    let then = movable_len way c.move_one.new.database c.move_one.new.history.lists in
    let fewer : count way now ≡ count way next + 1 = one_fewer way now next c.in_ok-move_one.ensures.session (omega (arith, here, some)) in
    record {
      linked = c.in_ok-move_one.ensures.linked;
      session = one_more way first now next c.loop-step._step (omega (arith, there, some, kept.left)) kept.session c.in_ok-move_one.ensures.session;
      left = omega (arith, fewer, here, then, kept.left);
    }

pub returns-in_err-move_one-clause-session : goal.returns-in_err-move_one-clause-session
returns-in_err-move_one-clause-session g c =
    let kept = c.loop-step.invariant in
    let way = c.args.way in
    let first : Session = session_of c.args.database.now c.args.history.now.lists in
    let now : Session = session_of c.loop-step.database c.loop-step.history.lists in
    let there = movable_len way c.args.database.now c.args.history.now.lists in
    let none : length (movable way c.loop-step.history.lists) ≡ 0 = none_left _ c.in_err-move_one.ensures.ok.1 in
    ap (λ (d : Slots). session_of d c.move_one.new.history.lists) c.in_err-move_one.ensures.err.1
    ∙ ap (session_of c.loop-step.database) c.in_err-move_one.ensures.err.0
    ∙ all_moved way first now c.loop-step._step c.args.count (omega (arith, there, none, kept.left))
    (omega (arith, there, none, kept.left, c.loop-step-test.true)) kept.session
