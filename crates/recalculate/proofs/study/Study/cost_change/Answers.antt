use Rattle.recalculate.proofs.CostSteps.{changed_by}
use Rattle.recalculate.proofs.study.Study.cost_change.Goals as goal

pub returns-clause-change : goal.returns-clause-change
returns-clause-change g c =
    changed_by c.self.inside.database c.self.inside.history.lists c.args.self.now c.self.invariant.links c.self.view_is
    c.in_ok-one.one.slot c.in_ok-one.one.before.now c.in_ok-made.made.area c.in_ok-made.made.change c.args.moved
    (c.in_ok-one.ensures c.self.inside.database c.self.invariant.links) c.in_ok-made.ensures
