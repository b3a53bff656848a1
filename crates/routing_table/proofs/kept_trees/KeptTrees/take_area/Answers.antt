use Rattle.std.proofs.Common.{◌∙◌, sym, ap}
use Rattle.routing_table.specs.AreasTrees.{KeptTreesValue, trees_at}
use Rattle.routing_table.proofs.KeptMaps.{area_found}
use Rattle.routing_table.proofs.kept_trees.KeptTrees.take_area.Goals as goal

pub returns-in-Some-clause-area : goal.returns-in-Some-clause-area
returns-in-Some-clause-area g c = λ db all.
    area_found db c.args.self.now c.args.area c.in-Some.trees all
    (ap (λ (kept : KeptTreesValue). trees_at kept c.args.area) (sym c.self.view_is) ∙ sym c.in-Some.ensures.value)
