use Rattle.std.proofs.Common.{◌∙◌, ap}
use Rattle.unchanged_tables.specs.ByTree.{TreeIn, distances_by}
use Rattle.unchanged_tables.proofs.TreeDistances.{tree_distance}
use Rattle.unchanged_tables.proofs.distances.DistancesFrom.to.Goals as goal

pub returns-clause-distance : goal.returns-clause-distance
returns-clause-distance g c =
    c.distance.ensures.value
    ∙ tree_distance (record { graph = c.self.inside.graph.now; tree = c.self.inside.tree.now }) c.in_ok-index.index c.args.vertex c.self.invariant
    c.in_ok-index.ensures.number
    ∙ ap (λ (t : TreeIn). distances_by t c.args.vertex) c.self.view_is
