use Rattle.std.proofs.Common.{List, subst}
use Rattle.std.proofs.lemmas.List.{take_all}
use Rattle.area_graph.specs.declared.vertex.Vertex.{Vertex}
use Rattle.area_graph.specs.declared.vertex.Vertex.TheVariants.{Router}
use Rattle.least_paths.specs.steps.Marks.{IsReachedTarget, Marks}
use Rattle.least_paths.proofs.Marked.{more_targets, no_targets}
use Rattle.least_paths.proofs.marks.mark_targets.Goals as goal

pub loop-target-init : goal.loop-target-init
loop-target-init g c = no_targets c.args.graph.now c.args.tree.now.distances c.args.targets.now c.args.marks.now

pub loop-target-preserved : goal.loop-target-preserved
loop-target-preserved g c =
    more_targets c.args.graph.now c.args.tree.now.distances c.args.targets.now c.loop-target.target-index (Router (record { 0 = 0 })) _ _ _
    c.loop-target-test.true c.loop-target.invariant c.mark_target.ensures

pub returns : goal.returns
returns g c =
    let i = c.loop-target.target-index in
    subst (λ (l : List Vertex). Marks (IsReachedTarget c.args.graph.now c.args.tree.now.distances l) c.args.marks.now c.loop-target.marks)
    (take_all i c.args.targets.now c.loop-target-test.false) c.loop-target.invariant
