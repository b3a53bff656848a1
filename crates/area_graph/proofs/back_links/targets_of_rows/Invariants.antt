use Rattle.std.proofs.Common.{map}
use Rattle.area_graph.specs.steps.BackLinks.{HaveTargets}
use Rattle.area_graph.proofs.back_links.targets_of_rows.Given as goal

abbrev pub invariant-loop-of : goal.invariant-loop-of
invariant-loop-of g l = HaveTargets l.of l.naming (map (λ row. row.items) l.targets.items)
