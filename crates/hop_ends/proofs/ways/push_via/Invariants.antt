use Rattle.std.proofs.Common.{◌≡◌, ◌++◌, take}
use Rattle.hop_ends.specs.Ways.{ways_via}
use Rattle.hop_ends.proofs.ways.push_via.Given as goal

-- the ways to the routers so far were added
abbrev pub invariant-loop-router : goal.invariant-loop-router
invariant-loop-router g l = l.ways.items ≡ l.initial.ways.items ++ ways_via l.hop (take l.router-index l.routers)
