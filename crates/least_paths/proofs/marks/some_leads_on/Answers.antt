use Rattle.std.proofs.Common.{List, ap, sym, ◌∙◌}
use Rattle.std.specs.List.{list_any}
use Rattle.std.proofs.lemmas.List.{take_all}
use Rattle.area_graph.specs.declared.edge.Edge.{Edge}
use Rattle.least_paths.specs.steps.Marks.{leads_on}
use Rattle.least_paths.proofs.Marked.{none_so_far, one_passes}
use Rattle.least_paths.proofs.Pushing.{no_edge}
use Rattle.least_paths.proofs.marks.some_leads_on.Goals as goal

pub returns-then-leads_on : goal.returns-then-leads_on
returns-then-leads_on g c =
    let test = leads_on c.args.tree.now.distances c.args.marks.now c.args.distance in
    sym (ap (λ (row : List Edge). list_any test row) (sym c.edges-edge-items.ensures.row)
    ∙ one_passes test c.edges-edge-items.result.now c.loop-edge.edge-index no_edge c.loop-edge-test.true
    (sym c.leads_on.ensures ∙ c.if-leads_on.true))

pub loop-edge-preserved : goal.loop-edge-preserved
loop-edge-preserved g c =
    none_so_far (leads_on c.args.tree.now.distances c.args.marks.now c.args.distance) c.edges-edge-items.result.now c.loop-edge.edge-index
    no_edge c.loop-edge-test.true c.loop-edge.invariant (sym c.leads_on.ensures ∙ c.if-leads_on.false)

pub returns : goal.returns
returns g c =
    let test = leads_on c.args.tree.now.distances c.args.marks.now c.args.distance in
    sym (ap (λ (row : List Edge). list_any test row) (sym c.edges-edge-items.ensures.row)
    ∙ ap (list_any test) (sym (take_all c.loop-edge.edge-index c.edges-edge-items.result.now c.loop-edge-test.false)) ∙ c.loop-edge.invariant)
