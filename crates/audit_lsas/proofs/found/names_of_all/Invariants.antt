use Rattle.std.proofs.Common.{◌≡◌, take}
use Rattle.std.specs.List.{flat_map}
use Rattle.lsdb.specs.Slots.{lists_of}
use Rattle.audit_lsas.specs.Found.{names_in}
use Rattle.audit_lsas.proofs.found.names_of_all.Given as goal

-- the names in the areas so far
abbrev pub invariant-loop-scope : goal.invariant-loop-scope
invariant-loop-scope g l =
    l.names.items ≡ flat_map (names_in (g.T.LsaTest.passes_as l.test) (lists_of l.database)) (take l.scope-index l.scope-items)
