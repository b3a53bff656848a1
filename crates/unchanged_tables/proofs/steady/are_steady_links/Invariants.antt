use Rattle.std.specs.List.{AllZip}
use Rattle.unchanged_tables.specs.ByTree.{distances_by}
use Rattle.unchanged_tables.specs.Slack.{IsSteadyLink}
use Rattle.unchanged_tables.proofs.steady.are_steady_links.Given as goal

-- all links are steady where those that are left are
abbrev pub invariant-loop-old : goal.invariant-loop-old
invariant-loop-old g l = AllZip (IsSteadyLink (distances_by l.distances) l.from) l.olds l.news
    → AllZip (IsSteadyLink (distances_by l.distances) l.from) l.fn.olds l.fn.news
