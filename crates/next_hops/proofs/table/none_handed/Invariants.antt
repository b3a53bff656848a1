use Rattle.std.proofs.Common.{◌≡◌, replicate}
use Rattle.next_hops.specs.declared.handed.Handed.TheVariants.{Nothing}
use Rattle.next_hops.proofs.table.none_handed.Given as goal

abbrev pub invariant-loop : goal.invariant-loop
invariant-loop g l = l.vertices.items ≡ replicate l.counter Nothing
