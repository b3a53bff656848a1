use Rattle.std.proofs.Common.{◌≡◌, ◌++◌, ◌-◌, drop, length}
use Rattle.best_ways.specs.Best.{ways_of}
use Rattle.best_ways.proofs.best.ways_in_order.Given as goal

-- the ways so far, and then those of the candidates from the place on
abbrev pub invariant-loop-place : goal.invariant-loop-place
invariant-loop-place g l = ways_of g.K.Ord.cmp l.candidates ≡ l.ways.items ++ ways_of g.K.Ord.cmp (drop l.place l.candidates)

abbrev pub decreases-loop-place : goal.decreases-loop-place
decreases-loop-place g l = length l.candidates - l.place
