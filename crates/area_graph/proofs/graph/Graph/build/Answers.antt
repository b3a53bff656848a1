use Rattle.std.proofs.Common.{sym, subst, List, ℕ}
use Rattle.lsdb.specs.Slots.{lists_of}
use Rattle.area_graph.specs.Graphs.{AreOfArea}
use Rattle.area_graph.proofs.GraphLemmas.{are_of_area}
use Rattle.area_graph.proofs.graph.Graph.build.Goals as goal

pub graph_of-requires : goal.graph_of-requires
graph_of-requires g c = subst (λ (lsas : List (List ℕ)). AreOfArea lsas) (sym c.lsas.ensures.lsas)
    (are_of_area c.args.area (lists_of c.args.database.now) c.assert_valid.ensures)
