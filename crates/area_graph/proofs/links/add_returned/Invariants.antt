use Rattle.std.proofs.Common.{◌≡◌, take, map}
use Rattle.area_graph.specs.steps.Drafts.{Adds, arc_of, returned_arcs}
use Rattle.area_graph.proofs.links.add_returned.Given as goal

abbrev pub invariant-loop-edge : goal.invariant-loop-edge
invariant-loop-edge g l = (l.draft.vertices ≡ l.initial.draft.vertices)
    × Adds (returned_arcs l.initial.draft.vertices l.back_links (map (arc_of l.from) (take l.edge-index l.row))) l.initial.draft l.draft
