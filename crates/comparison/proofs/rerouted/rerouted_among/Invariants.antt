use Rattle.std.proofs.Common.{◌≡◌, take}
use Rattle.std.specs.List.{filter}
use Rattle.comparison.specs.Rerouted.{is_rerouted}
use Rattle.comparison.proofs.rerouted.rerouted_among.Given as goal

-- those of the hops so far
abbrev pub invariant-loop-hop : goal.invariant-loop-hop
invariant-loop-hop g l = l.found.items ≡ filter (is_rerouted l.both l.router) (take l.hop-index l.hops)
