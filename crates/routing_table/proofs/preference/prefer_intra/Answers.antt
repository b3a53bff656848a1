use Rattle.std.proofs.Common.{◌≡◌, ◌∙◌, true, false}
use Rattle.routing_table.proofs.preference.prefer_intra.Goals as goal

impossible : {X : Type 0} → false ≡ true → X
impossible h = cc

pub returns-in_err-routes-clause-memory : goal.returns-in_err-routes-clause-memory
returns-in_err-routes-clause-memory g c = λ none. impossible (c.in_err-routes.ensures.memory (c.into_routes-2.ensures.routes ∙ none))

pub from_routes-requires : goal.from_routes-requires
from_routes-requires g c = c.in_ok-routes.ensures.small c.into_routes.ensures.small c.into_routes-2.ensures.small
