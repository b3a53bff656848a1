use Rattle.lsdb.specs.Slots.{lists_of}
use Rattle.summary_metrics.proofs.KnownMetrics.{more_trees, trees_known}
use Rattle.summary_metrics.proofs.metrics.SummaryMetrics.add_graphs.Goals as goal

pub add_graphs-requires : goal.add_graphs-requires
add_graphs-requires g c =
    trees_known (lists_of c.args.database.now) c.args.self.now c.requires c.self.inside.attached c.self.inside.trees c.self.inside.inside
    c.self.inside.summaries c.self.view_is

pub returns : goal.returns
returns g c =
    more_trees (lists_of c.args.database.now) c.args.self.now c.requires c.self.inside.attached c.self.inside.trees c.add_graphs.new.self
    c.self.inside.inside c.self.inside.summaries c.self.view_is c.add_graphs.ensures.graphs
