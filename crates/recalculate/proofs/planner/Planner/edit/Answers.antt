use Rattle.recalculate.proofs.CallsSpare.{caches_follow, carries_out}
use Rattle.recalculate.proofs.Touches.{edit_step}
use Rattle.recalculate.proofs.planner.Planner.edit.Goals as goal

pub invariant_of-self-2 : goal.invariant_of-self-2
invariant_of-self-2 g c =
    let step = edit_step c.self.inside.study c.edit.new.self c.args.edit.now c.in_ok-edit.ensures.ok in
    caches_follow _ _ _ _ step c.self.inside.present c.follow.new.self c.self.inside.baseline c.follow.ensures.cache c.self.invariant

pub returns-clause-step : goal.returns-clause-step
returns-clause-step g c =
    let step = edit_step c.self.inside.study c.edit.new.self c.args.edit.now c.in_ok-edit.ensures.ok in
    carries_out _ _ _ _ step c.self.inside.present c.follow.new.self c.self.inside.baseline c.self.inside.meter c.self.inside.asked _ c.self.view_is
    _ c.follow.ensures.kept c.in_ok-edit.ensures.reached c.follow.ensures.table
