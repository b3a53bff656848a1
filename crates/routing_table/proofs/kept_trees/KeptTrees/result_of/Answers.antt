use Rattle.std.proofs.Common.{◌∙◌, sym, ap}
use Rattle.lsdb.specs.Slots.{lists_of}
use Rattle.routing_table.specs.AreasTrees.{KeptTreesValue, trees_at}
use Rattle.routing_table.proofs.KeptMaps.{area_found, has_found}
use Rattle.routing_table.proofs.kept_trees.KeptTrees.result_of.Goals as goal

pub result_of-requires-clause-area : goal.result_of-requires-clause-area
result_of-requires-clause-area g c =
    area_found (lists_of c.args.database.now) c.args.self.now c.args.area c.in-Some.trees.now c.requires.graphs
    (ap (λ (areas : KeptTreesValue). trees_at areas c.args.area) (sym c.self.view_is) ∙ sym c.in-Some.ensures.value)

pub result_of-requires-clause-tree : goal.result_of-requires-clause-tree
result_of-requires-clause-tree g c =
    has_found c.args.self.now c.args.area c.in-Some.trees.now
    (ap (λ (areas : KeptTreesValue). trees_at areas c.args.area) (sym c.self.view_is) ∙ sym c.in-Some.ensures.value) c.args.router c.requires.tree
