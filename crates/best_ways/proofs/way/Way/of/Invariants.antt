use Rattle.std.proofs.Common.{◌≡◌, ◌∷◌, Some, take}
use Rattle.best_ways.specs.Best.{way_of}
use Rattle.best_ways.proofs.way.Way.of.Given as goal

-- the way of the candidates so far
abbrev pub invariant-loop-candidate : goal.invariant-loop-candidate
invariant-loop-candidate g l = Some l.way ≡ way_of (l.first ∷ take l.candidate-index l.others)
