use Rattle.std.proofs.Common.{sym, subst}
use Rattle.routing_table.specs.AreaTrees.{AreaTreesValue, IsAreaOf}
use Rattle.routing_table.proofs.StubsStay.{stubs_stay}
use Rattle.routing_table.proofs.area_trees.AreaTrees.after_change.Goals as goal

pub returns-clause-area : goal.returns-clause-area
returns-clause-area g c = λ lsas others are changed area.
    let was = subst (λ (kept : AreaTreesValue). IsAreaOf lsas kept) (sym c.self.view_is) area in
    subst (λ (kept : AreaTreesValue). IsAreaOf others kept) (sym c.new.ensures) (record {
      graph = c.if-not-change_cost.ensures.graph lsas others are changed was.graph;
      stubs = stubs_stay c.args.change lsas others c.self.inside.stubs changed was.stubs;
    })
