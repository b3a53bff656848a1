use Rattle.std.proofs.Common.{take}
use Rattle.std.specs.List.{filter}
use Rattle.lost_routes.specs.Lost.{lacks}
use Rattle.lost_routes.specs.Gathering.{Gathers}
use Rattle.lost_routes.proofs.lost.add_missing.Given as goal

-- those of the prefixes so far were added
abbrev pub invariant-loop-net : goal.invariant-loop-net
invariant-loop-net g l = Gathers (filter (lacks l.is) (take l.net-index l.nets)) l.initial.found.keys l.found.keys
