use Rattle.std.proofs.Common.{refl}
use Rattle.recalculate.proofs.CallsSpare.{caches_follow, carries_out}
use Rattle.recalculate.proofs.Touches.{undo_step}
use Rattle.recalculate.proofs.planner.Planner.undo.Goals as goal

pub invariant_of-self-2 : goal.invariant_of-self-2
invariant_of-self-2 g c =
    let step = undo_step c.self.inside.study c.undo.new.self c.args.count (c.in_ok-undo.ensures.ok.0 refl) c.in_ok-undo.ensures.session in
    caches_follow _ _ _ _ step c.self.inside.present c.follow.new.self c.self.inside.baseline c.follow.ensures.cache c.self.invariant

pub returns-clause-step : goal.returns-clause-step
returns-clause-step g c =
    let step = undo_step c.self.inside.study c.undo.new.self c.args.count (c.in_ok-undo.ensures.ok.0 refl) c.in_ok-undo.ensures.session in
    carries_out _ _ _ _ step c.self.inside.present c.follow.new.self c.self.inside.baseline c.self.inside.meter c.self.inside.asked _ c.self.view_is
    _ c.follow.ensures.kept c.undo.ensures.leads c.follow.ensures.table
