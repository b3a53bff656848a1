use Rattle.edit_history.specs.Session.{state}
use Rattle.recalculate.proofs.planner.Planner.new.Goals as goal

pub invariant_of-result : goal.invariant_of-result
invariant_of-result g c = record {
  present = c.new-2.ensures.cache (state c.new.result);
  baseline = c.new-3.ensures.cache c.new.result.base;
}
