use Rattle.std.proofs.Common.{◌+◌, List, sym, subst}
use Rattle.lsdb.specs.Slots.{lists_of}
use Rattle.area_graph.specs.Topology.{Topology}
use Rattle.hop_ends.proofs.FirstGraphs.{AreFirst, first_more}
use Rattle.hop_ends.proofs.area_graphs.graphs_of.Goals as goal

pub loop-i-preserved : goal.loop-i-preserved
loop-i-preserved g c =
    let db = lists_of c.args.database.now in
    subst (λ (gs : List Topology). AreFirst db (c.loop-i.i + 1) gs) (sym c.in_ok-push.ensures.items)
    (first_more db c.loop-i.i c.loop-i.graphs.items c.in_ok-graph_of.field-0 c.loop-i.invariant c.in_ok-graph_of.ensures)
