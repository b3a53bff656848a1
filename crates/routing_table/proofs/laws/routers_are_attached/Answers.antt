use Rattle.routing_table.proofs.Listed.{routers_attached}
use Rattle.routing_table.proofs.laws.routers_are_attached.Goals as goal

pub returns : goal.returns
returns c = routers_attached
