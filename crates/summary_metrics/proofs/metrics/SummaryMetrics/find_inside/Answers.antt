use Rattle.lsdb.specs.Slots.{lists_of}
use Rattle.summary_metrics.proofs.KnownMetrics.{more_trees, trees_known}
use Rattle.summary_metrics.proofs.metrics.SummaryMetrics.find_inside.Goals as goal

pub results_of-requires : goal.results_of-requires
results_of-requires g c =
    trees_known (lists_of c.args.database.now) c.args.self.now c.requires c.self.inside.attached c.self.inside.trees c.self.inside.inside c.self.inside.summaries
    c.self.view_is

pub returns-in_err-results-clause-of : goal.returns-in_err-results-clause-of
returns-in_err-results-clause-of g c =
    more_trees (lists_of c.args.database.now) c.args.self.now c.requires c.self.inside.attached c.self.inside.trees c.results_of.new.self
    c.self.inside.inside c.self.inside.summaries c.self.view_is c.results_of.ensures.graphs

pub returns-clause-of : goal.returns-clause-of
returns-clause-of g c =
    more_trees (lists_of c.args.database.now) c.args.self.now c.requires c.self.inside.attached c.self.inside.trees c.results_of.new.self
    c.self.inside.inside c.self.inside.summaries c.self.view_is c.results_of.ensures.graphs
