use Rattle.microloops.proofs.Changing.{may_loop}
use Rattle.microloops.proofs.laws.each_loop_may_occur.Goals as goal

pub returns : goal.returns
returns c = λ before after router. may_loop before after router
