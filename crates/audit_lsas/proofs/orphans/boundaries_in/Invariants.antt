use Rattle.std.proofs.Common.{◌≡◌, map}
use Rattle.std.specs.List.{filter_map}
use Rattle.audit_lsas.specs.Orphans.{described_boundary}
use Rattle.audit_lsas.proofs.orphans.boundaries_in.Given as goal

-- the routers that the LSAs so far describe
abbrev pub invariant-loop-lsa : goal.invariant-loop-lsa
invariant-loop-lsa g l = l.found.items ≡ filter_map described_boundary (map (λ lsa. lsa.now) l.yielded)
