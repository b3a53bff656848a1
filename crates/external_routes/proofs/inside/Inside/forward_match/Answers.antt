use Rattle.std.proofs.Common.{◌<◌, ◌^◌}
use Rattle.external_routes.specs.Choose.{covers, longer}
use Rattle.external_routes.proofs.First.{first_has}
use Rattle.external_routes.proofs.inside.Inside.forward_match.Goals as goal

pub returns-clause-small : goal.returns-clause-small
returns-clause-small g c =
    first_has longer (λ r. r.cost < 2 ^ 34) (λ r. covers r.net c.args.addr) c.self.inside.routes.now
    c.forward_match.result c.self.invariant.below.routes c.forward_match.ensures
