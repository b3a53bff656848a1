use Rattle.std.proofs.Common.{◌≡◌, map}
use Rattle.std.specs.List.{filter_map}
use Rattle.area_graph.specs.Least.{least}
use Rattle.router_entries.specs.OwnExternals.{own_by, own_cmp}
use Rattle.router_entries.proofs.own_external.own_external_for.Given as goal

-- the first of the LSAs so far
abbrev pub invariant-loop-lsa : goal.invariant-loop-lsa
invariant-loop-lsa g l = l.found ≡ least own_cmp (filter_map (own_by l.router l.net) (map (λ lsa. lsa.now) l.yielded))
