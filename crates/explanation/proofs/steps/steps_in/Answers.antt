use Rattle.std.proofs.Common.{List, [], ap, get_or, subst, sym, ◌≡◌}
use Rattle.std.specs.List.{AllPairs}
use Rattle.std.specs.declared.cmp.Ordering.TheVariants.{Less}
use Rattle.std.proofs.lemmas.Iterator.{items_from_collect}
use Rattle.std.proofs.lemmas.Iterator.Consumers.{YieldsList-from_rest}
use Rattle.std.proofs.lemmas.List.{get_or_default}
use Rattle.std.proofs.lemmas.Map.Keys.{Less-from_sorted}
use Rattle.std.proofs.lemmas.Result.{IfOk-weaker}
use Rattle.lsa_codec.specs.declared.address.AreaId.{AreaId}
use Rattle.area_graph.specs.declared.vertex.Vertex.TheVariants.{Router}
use Rattle.area_graph.specs.Area.{used}
use Rattle.area_graph.specs.AreaEdges.{area_edges}
use Rattle.area_candidates.specs.Views.{lsas_in}
use Rattle.explanation.specs.WaySteps.{AreSteps}
use Rattle.explanation.specs.declared.way_step.WayStep.{WayStep}
use Rattle.explanation.specs.steps.Edges.{IsStepFrom}
use Rattle.area_candidates.proofs.InsertingLemmas.{Inserts, OfFirst, first_all, first_more, first_none}
use Rattle.explanation.proofs.EdgesIn.{no_edge}
use Rattle.explanation.proofs.OneRest.{no_steps_from, steps_from}
use Rattle.explanation.proofs.Orders.{step_cmp}
use Rattle.explanation.proofs.StepsFound.{IsFrom, all_steps}
use Rattle.explanation.proofs.steps.steps_in.Goals as goal
use Rattle.explanation.proofs.steps.steps_in.Goals.{in-Router+in_ok-insert_steps-in-Router, in-Network}

pub loop-edge-init : goal.loop-edge-init
loop-edge-init g c =
    let found = IsFrom c.args.view.now c.args.targets.now c.args.edges.now in
    subst (λ (l : List WayStep). Inserts (OfFirst found c.args.edges.now 0) [] l) (sym c.new-steps.ensures.empty) (first_none found c.args.edges.now [])

pub loop-edge-preserved : goal.loop-edge-preserved
loop-edge-preserved g c =
    let view = c.args.view.now in
    let targets = c.args.targets.now in
    let edges = c.args.edges.now in
    let i = c.loop-edge.edge-index in
    let edge = get_or edges i no_edge in
    let old = c.loop-edge.steps.keys in
    let new = c.match-edge.steps.keys in
    let found = IsFrom view targets edges in
    let at = get_or_default edges i no_edge edge c.loop-edge-test.true in
    elim c.match-edge.branch [
      | in-Router+in_ok-insert_steps-in-Router w ↦
          first_more found edges i edge [] old new c.loop-edge-test.true at c.loop-edge.invariant
          (steps_from old new view targets edges edge w.in-Router.router w.in-Router.is
          (subst (λ (l : List WayStep).
          Inserts (IsStepFrom (record { area = view.area; router = w.in-Router.router; edge = edge }) edges targets) old l)
          (sym (ap (λ s. s.keys) w.steps-is))
          (subst (λ (area : AreaId).
          Inserts (IsStepFrom (record { area = area; router = w.in-Router.router; edge = edge }) edges targets) old w.insert_steps.new.steps.keys)
          c.area-area.ensures w.in_ok-insert_steps-in-Router.ensures)))
      | in-Network w ↦
          first_more found edges i edge [] old new c.loop-edge-test.true at c.loop-edge.invariant
          (subst (λ (l : List WayStep). Inserts (found edge) old l) (sym (ap (λ s. s.keys) w.steps-is))
          (no_steps_from old view targets edges edge _ w.in-Network.is))
    ]

pub returns-clause-steps : goal.returns-clause-steps
returns-clause-steps g c =
    let found = IsFrom c.args.view.now c.args.targets.now c.args.edges.now in
    IfOk-weaker c.collect.result _ _
    (λ v h. subst (λ (l : List WayStep). AreSteps c.args.view.now c.args.targets.now l) (sym h)
    (all_steps c.args.view.now c.args.targets.now c.args.edges.now c.requires
    (λ e on. (c.edges_on_least_paths.ensures.start (area_edges (used (lsas_in c.args.view.now))) (Router c.args.view.now.router) c.args.targets.now e on).1)
    c.loop-edge.steps.keys
    (first_all found c.args.edges.now c.loop-edge.edge-index [] c.loop-edge.steps.keys c.loop-edge-test.false c.loop-edge.invariant)))
    (items_from_collect c.collect.result c.collect.ensures.ran (YieldsList-from_rest c.loop-edge.steps.keys c.into_iter.ensures.into_iter_gives.0))

pub returns-clause-order : goal.returns-clause-order
returns-clause-order g c =
    let keys = c.loop-edge.steps.keys in
    let gives = c.into_iter.ensures.into_iter_gives in
    IfOk-weaker c.collect.result _ _
    (λ v h. subst (λ (l : List WayStep). AllPairs (λ a b. step_cmp a b ≡ Less) l) (sym h)
    (λ i j d a b. Less-from_sorted step_cmp keys i j d gives.4 a b))
    (items_from_collect c.collect.result c.collect.ensures.ran (YieldsList-from_rest keys gives.0))
