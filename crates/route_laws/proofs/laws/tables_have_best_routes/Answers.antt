use Rattle.std.proofs.Common.{◌∙◌}
use Rattle.area_routes.specs.Attached.{attached_areas}
use Rattle.route_laws.proofs.Between.{inter_routes_are_best}
use Rattle.route_laws.proofs.WholeTables.{routes_are_best}
use Rattle.route_laws.proofs.Within.{intra_routes_are_best}
use Rattle.route_laws.proofs.laws.tables_have_best_routes.Goals as goal

pub returns : goal.returns
returns c = λ db router table is at.
    c.tables_are_over_all_paths.ensures.routes db router table at
    ∙ routes_are_best c.ways_are_best.ensures.only db router (attached_areas db router)
    (intra_routes_are_best c.rank_order.ensures.total c.rank_order.ensures.exact c.ways_are_best.ensures.best db router (attached_areas db router))
    (λ intra. inter_routes_are_best c.ways_are_best.ensures.best c.entries_stand_once.ensures db router intra is)
