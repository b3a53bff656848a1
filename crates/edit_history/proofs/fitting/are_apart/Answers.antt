use Rattle.std.proofs.Common.{◌≡◌, ℕ, suc, ◌+◌, drop, ap, ◌∙◌, arith}
use Rattle.edit_history.proofs.FittingLoops.{one_passed, one_shares}
use Rattle.edit_history.proofs.fitting.are_apart.Goals as goal

pub returns-then-not-is_apart : goal.returns-then-not-is_apart
returns-then-not-is_apart g c =
    one_shares c.args.database.now c.args.swaps.now c.loop-i.i c.index-swaps-i.result c.after-later.result.now c.is_apart.result (omega arith) c.index-swaps-i.is
    (c.after-later.ensures ∙ ap (λ (k : ℕ). drop k c.args.swaps.now) (let e : c.loop-i.i + 1 ≡ suc c.loop-i.i = omega arith in e)) c.is_apart.ensures c.if-not-is_apart.true c.loop-i.invariant

pub loop-i-preserved : goal.loop-i-preserved
loop-i-preserved g c =
    one_passed c.args.database.now c.args.swaps.now c.loop-i.i (c.loop-i.i + 1) c.index-swaps-i.result c.after-later.result.now c.is_apart.result (omega arith) (omega arith)
    c.index-swaps-i.is (c.after-later.ensures ∙ ap (λ (k : ℕ). drop k c.args.swaps.now) (let e : c.loop-i.i + 1 ≡ suc c.loop-i.i = omega arith in e)) c.is_apart.ensures c.if-not-is_apart.false c.loop-i.invariant
