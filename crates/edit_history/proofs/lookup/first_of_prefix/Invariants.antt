use Rattle.edit_history.proofs.OfPrefix.{NoneStands}
use Rattle.edit_history.proofs.lookup.first_of_prefix.Given as goal

abbrev pub invariant-loop-entry : goal.invariant-loop-entry
invariant-loop-entry g l = NoneStands l.wanted l.database l.section l.yielded
