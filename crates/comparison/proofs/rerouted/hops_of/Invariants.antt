use Rattle.std.proofs.Common.{◌≡◌, take}
use Rattle.comparison.specs.Rerouted.{hops_of}
use Rattle.comparison.proofs.rerouted.hops_of.Given as goal

-- the hops of the routes so far
abbrev pub invariant-loop-route : goal.invariant-loop-route
invariant-loop-route g l = l.hops ≡ hops_of (take l.route-index l.routes)
