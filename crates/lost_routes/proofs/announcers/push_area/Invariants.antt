use Rattle.std.proofs.Common.{◌≡◌, ◌++◌, map}
use Rattle.std.specs.Prelude.{flat_map}
use Rattle.lost_routes.specs.Announcers.{by_area_lsa}
use Rattle.lost_routes.proofs.announcers.push_area.Given as goal

-- the pairs of the LSAs so far were added
abbrev pub invariant-loop-lsa : goal.invariant-loop-lsa
invariant-loop-lsa g l = l.pairs.items ≡ l.initial.pairs.items ++ flat_map (by_area_lsa l.baseline) (map (λ lsa. lsa.now) l.yielded)
