use Rattle.spf.specs.steps.Table.{settled_in}
use Rattle.spf.proofs.Trees.{AreInRange-settled}
use Rattle.spf.proofs.tree.Tree.grow.Goals as goal

pub invariant_of-result : goal.invariant_of-result
invariant_of-result g c = AreInRange-settled c.args.graph.now c.len.ensures.shape c.args.root
    (settled_in c.settle_all.new.distances) c.settle_all.new.order.items c.in_ok-settle_all.ensures
