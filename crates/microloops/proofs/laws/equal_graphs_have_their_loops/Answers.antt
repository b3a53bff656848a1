use Rattle.microloops.proofs.Changing.{unchanged}
use Rattle.microloops.proofs.laws.equal_graphs_have_their_loops.Goals as goal

pub returns : goal.returns
returns c = λ graph loops. unchanged graph loops
