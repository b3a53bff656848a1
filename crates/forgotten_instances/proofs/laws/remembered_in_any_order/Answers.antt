use Rattle.forgotten_instances.proofs.LeftOver.{same_remembered}
use Rattle.forgotten_instances.proofs.laws.remembered_in_any_order.Goals as goal

pub returns : goal.returns
returns g c = λ reported other same. same_remembered reported other same
