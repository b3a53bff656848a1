use Rattle.lsdb.specs.Slots.{lists_of}
use Rattle.area_candidates.proofs.Attached.{router_is_there}
use Rattle.area_candidates.proofs.area_view.AreaView.of.Goals as goal

pub unreachable-requires : goal.unreachable-requires
unreachable-requires g c =
    let db = lists_of c.args.database.now in
    router_is_there db c.args.area c.args.router c.requires c.in_ok-graph.graph c.in_ok-graph.ensures
    (λ a. (c.attached_routers_are_vertices.ensures db c.assert_valid.ensures c.args.area c.args.router).0 a)
    c.in-Err-NoRouter.field-0 c.in-Err-NoRouter.field-0-is c.in-Err-NoRouter.ensures.fault
