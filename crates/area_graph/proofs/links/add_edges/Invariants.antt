use Rattle.std.proofs.Common.{◌≡◌}
use Rattle.area_graph.specs.steps.Drafts.{Adds, arcs_below}
use Rattle.area_graph.proofs.links.add_edges.Given as goal

abbrev pub invariant-loop-from : goal.invariant-loop-from
invariant-loop-from g l = (l.draft.vertices ≡ l.initial.draft.vertices) × Adds (arcs_below l.initial.draft.vertices l.back_links l.from) l.initial.draft l.draft
