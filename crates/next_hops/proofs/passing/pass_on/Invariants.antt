use Rattle.std.proofs.Common.{◌≡◌, take}
use Rattle.std.specs.List.{Contains}
use Rattle.area_graph.specs.declared.edge.Edge.{Edge}
use Rattle.next_hops.specs.steps.Passing.{IsPassed, arc_of}
use Rattle.next_hops.specs.steps.Table.{Hands, kept_list}
use Rattle.next_hops.proofs.passing.pass_on.Given as goal

abbrev pub invariant-loop-edge : goal.invariant-loop-edge
invariant-loop-edge g l = Hands
    (λ i h. (o : Edge) × Contains (take l.edge-index l.edge-items) o × (i ≡ o.to)
    × IsPassed l.graph l.tree (kept_list l.initial.table l.source.number) (arc_of l.source.vertex o) h) l.initial.table l.table
