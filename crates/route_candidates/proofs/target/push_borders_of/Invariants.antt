use Rattle.std.proofs.Common.{◌≡◌, ◌++◌, map}
use Rattle.std.specs.List.{filter_map}
use Rattle.route_candidates.specs.Targets.{border_target}
use Rattle.route_candidates.proofs.target.push_borders_of.Given as goal

-- those of the LSAs so far
abbrev pub invariant-loop-lsa : goal.invariant-loop-lsa
invariant-loop-lsa g l = l.targets.items ≡ l.initial.targets.items ++ filter_map (border_target l.view l.entry) (map (λ lsa. lsa.now) l.yielded)
