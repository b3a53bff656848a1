use Rattle.loop_report.proofs.Alike.{is_same, was_same}
use Rattle.loop_report.proofs.laws.an_atom_has_one_graph.Goals as goal

pub returns-clause-was : goal.returns-clause-was
returns-clause-was c = was_same

pub returns-clause-is : goal.returns-clause-is
returns-clause-is c = is_same
