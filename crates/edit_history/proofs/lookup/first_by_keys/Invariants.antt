use Rattle.edit_history.proofs.Candidates.{IsLeast}
use Rattle.edit_history.proofs.lookup.first_by_keys.Given as goal

abbrev pub invariant-loop-noted : goal.invariant-loop-noted
invariant-loop-noted g l = IsLeast l.wanted l.database l.section l.yielded l.first
