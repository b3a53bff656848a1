use Rattle.std.proofs.Common.{◌≡◌, map}
use Rattle.audit_lsas.specs.Found.{names_of}
use Rattle.audit_lsas.proofs.found.names_of.Given as goal

-- the names of the LSAs so far
abbrev pub invariant-loop-lsa : goal.invariant-loop-lsa
invariant-loop-lsa g l = l.names.items ≡ names_of (g.T.LsaTest.passes_as l.test) l.scope (map (λ lsa. lsa.now) l.yielded)
