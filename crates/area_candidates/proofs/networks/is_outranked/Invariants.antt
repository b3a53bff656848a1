use Rattle.std.proofs.Common.{◌≡◌, false, map}
use Rattle.std.specs.Prelude.{◌&&◌}
use Rattle.std.specs.List.{list_any}
use Rattle.area_graph.specs.Area.{is_live, is_outranked_by}
use Rattle.area_candidates.proofs.networks.is_outranked.Given as goal

-- no LSA so far outranks it
abbrev pub invariant-loop-other : goal.invariant-loop-other
invariant-loop-other g l = list_any (λ other. is_live other && is_outranked_by l.lsa other) (map (λ lsa. lsa.now) l.yielded) ≡ false
