use Rattle.std.proofs.Common.{◌≡◌, ◌++◌, take}
use Rattle.lost_routes.specs.LostPairs.{pairs_of}
use Rattle.lost_routes.proofs.pairs.push_pairs.Given as goal

-- the prefixes so far were added
abbrev pub invariant-loop-net : goal.invariant-loop-net
invariant-loop-net g l = l.pairs.items ≡ l.initial.pairs.items ++ pairs_of l.router (take l.net-index l.nets)
