use Rattle.edit_history.proofs.CarriedPlans.{applied}
use Rattle.edit_history.proofs.applying.apply.Goals as goal

pub returns-clause-applied : goal.returns-clause-applied
returns-clause-applied g c =
    applied c.args.database.now c.plan.new.database c.commit.new.database c.args.edit.now c.in_ok-swaps.swaps.items
    c.commit.result c.assert_valid.ensures c.in_ok-swaps.ensures.plan c.commit.ensures.database c.commit.ensures.result
