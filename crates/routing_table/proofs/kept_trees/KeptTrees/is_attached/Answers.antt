use Rattle.std.proofs.Common.{◌∙◌, sym, ap}
use Rattle.lsdb.specs.Slots.{lists_of}
use Rattle.routing_table.specs.AreasTrees.{KeptTreesValue, trees_at}
use Rattle.routing_table.proofs.KeptMaps.{area_found, vertex_reports}
use Rattle.routing_table.proofs.kept_trees.KeptTrees.is_attached.Goals as goal

pub returns-in-Some : goal.returns-in-Some
returns-in-Some g c =
    vertex_reports (lists_of c.args.database.now) c.assert_valid.ensures c.args.area c.args.router c.in-Some.trees.now
    (area_found (lists_of c.args.database.now) c.args.self.now c.args.area c.in-Some.trees.now c.requires
    (ap (λ (areas : KeptTreesValue). trees_at areas c.args.area) (sym c.self.view_is) ∙ sym c.in-Some.ensures.value)).graph
    c.has_router.result c.has_router.ensures.yes c.has_router.ensures.no
