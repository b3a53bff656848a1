use Rattle.lsdb.specs.Slots.{lists_of}
use Rattle.forwarding.proofs.router_routes.RouterRoutes.of.Goals as goal

pub over-requires : goal.over-requires
over-requires g c = c.new.ensures (lists_of c.args.database.now)
