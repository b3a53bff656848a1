use Rattle.external_routes.proofs.Longest.{LeftOut}
use Rattle.external_routes.proofs.forward.forward_match.Given as goal

-- no route that covers the address has one of the lengths so far
abbrev pub invariant-loop-shorter : goal.invariant-loop-shorter
invariant-loop-shorter g l = LeftOut l.addr l.shorter l.routes
