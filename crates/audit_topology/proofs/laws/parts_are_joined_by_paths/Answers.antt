use Rattle.audit_topology.proofs.Classes.{together}
use Rattle.audit_topology.proofs.laws.parts_are_joined_by_paths.Goals as goal

pub returns : goal.returns
returns c = together
