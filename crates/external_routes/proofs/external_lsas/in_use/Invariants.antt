use Rattle.std.proofs.Common.{◌≡◌, map}
use Rattle.std.specs.List.{filter_map}
use Rattle.external_routes.specs.ExternalLsas.{external_lsa}
use Rattle.external_routes.proofs.external_lsas.in_use.Given as goal

-- the AS-external-LSAs in use among the LSAs so far are listed
abbrev pub invariant-loop-lsa : goal.invariant-loop-lsa
invariant-loop-lsa g l = l.found.items ≡ filter_map external_lsa (map (λ lsa. lsa.now) l.yielded)
