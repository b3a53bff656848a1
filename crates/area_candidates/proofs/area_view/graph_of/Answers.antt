use Rattle.lsdb.specs.Slots.{lists_of}
use Rattle.area_candidates.proofs.Attached.{area_is_there}
use Rattle.area_candidates.proofs.area_view.graph_of.Goals as goal

pub unreachable-requires : goal.unreachable-requires
unreachable-requires g c =
    area_is_there (lists_of c.args.database.now) c.args.area c.args.router c.requires c.in-Err-NoArea.field-0 c.in-Err-NoArea.field-0-is
    c.in-Err-NoArea.ensures.fault
