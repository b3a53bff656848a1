use Rattle.std.proofs.Common.{◌≡◌, ℕ, ◌+◌, ◌≤◌, ◌∙◌, Option, List, [], ◌∷◌, ◌++◌, length, get_or, take, sym, subst, arith}
use Rattle.std.proofs.lemmas.List.{take_more, take_all}
use Rattle.area_graph.specs.declared.edge.Edge.{Edge}
use Rattle.spf.specs.steps.Search.{PushesEdge, IsNoneFarther}
use Rattle.spf.specs.steps.Table.{settled_in}
use Rattle.spf.proofs.Pushing.{PushesRow, PushesRow-edge, PushesNeighbors-row, PushesEdge-count}
use Rattle.spf.proofs.dijkstra.push_neighbors.Goals as goal

abbrev no_edge : Edge
no_edge = record { to = 0; cost = 0; link_data = record { 0 = 0 } }

pub loop-edge-preserved : goal.loop-edge-preserved
loop-edge-preserved g c =
    let t = c.args.graph.now in
    let ds = settled_in c.args.distances.now in
    let row = c.edges-edge-items.result.now in
    let i = c.loop-edge.edge-index in
    let o = get_or row i no_edge in
    let more : take (i + 1) row ≡ take i row ++ o ∷ [] = take_more row i no_edge c.loop-edge-test.true in
    let mid = c.loop-edge.queue in
    let new = c.push_edge.new.queue in
    let now = c.loop-edge.invariant.settled in
    let pushes : PushesEdge t o c.args.distance ds mid new =
    subst (λ (xs : List (Option ℕ)). PushesEdge t o c.args.distance xs mid new) now c.in_ok-push_edge.ensures.pushes in
    let count = PushesEdge-count t o c.args.distance ds mid new pushes in
    rw more (record {
      pushes = PushesRow-edge t c.args.distance ds (take i row) o c.args.queue.now mid new c.loop-edge.invariant.pushes pushes;
      count = omega arith;
      sized = c.push_edge.ensures.sized ∙ c.loop-edge.invariant.sized;
      settled = c.push_edge.ensures.settled ∙ now;
      waiting = c.in_ok-push_edge.ensures.waiting;
    })

pub returns-clause-pushes : goal.returns-clause-pushes
returns-clause-pushes g c =
    let t = c.args.graph.now in
    let row = c.edges-edge-items.result.now in
    let past : length row ≤ c.loop-edge.edge-index = omega arith in
    let whole : take c.loop-edge.edge-index row ≡ row = take_all c.loop-edge.edge-index row past in
    PushesNeighbors-row t c.args.distance (settled_in c.args.distances.now) c.args.from c.args.queue.now c.loop-edge.queue
    (subst (λ (xs : List Edge). PushesRow t c.args.distance (settled_in c.args.distances.now) xs c.args.queue.now c.loop-edge.queue)
    (whole ∙ c.edges-edge-items.ensures.row) c.loop-edge.invariant.pushes)

pub push_edge-requires-clause-order : goal.push_edge-requires-clause-order
push_edge-requires-clause-order g c =
    subst (λ (xs : List (Option ℕ)). IsNoneFarther xs c.args.distance) (sym c.loop-edge.invariant.settled) c.requires.order
