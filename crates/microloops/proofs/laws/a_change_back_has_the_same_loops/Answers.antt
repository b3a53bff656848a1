use Rattle.microloops.proofs.Changing.{changed_back}
use Rattle.microloops.proofs.laws.a_change_back_has_the_same_loops.Goals as goal

pub returns : goal.returns
returns c = λ before after loops. (changed_back before after loops, changed_back after before loops)
