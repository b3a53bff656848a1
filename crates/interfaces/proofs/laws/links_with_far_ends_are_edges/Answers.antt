use Rattle.interfaces.proofs.GraphEnds.{ends_are_edges}
use Rattle.interfaces.proofs.laws.links_with_far_ends_are_edges.Goals as goal

pub returns : goal.returns
returns c = λ db area router own. ends_are_edges db area router own
