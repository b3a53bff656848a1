use Rattle.std.proofs.Common.{◌≡◌, take, filter, not}
use Rattle.std.specs.List.{list_any}
use Rattle.area_graph.specs.Area.{is_outranked_by}
use Rattle.area_graph.proofs.used.highest.Given as goal

abbrev pub invariant-loop-lsa : goal.invariant-loop-lsa
invariant-loop-lsa g l = l.found.items ≡ filter (λ lsa. not (list_any (is_outranked_by lsa) l.lsas)) (take l.lsa-index l.lsas)
