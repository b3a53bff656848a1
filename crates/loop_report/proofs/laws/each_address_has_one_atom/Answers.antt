use Rattle.loop_report.proofs.OneAtom.{in_one, in_some}
use Rattle.loop_report.proofs.laws.each_address_has_one_atom.Goals as goal

pub returns-clause-some : goal.returns-clause-some
returns-clause-some c = in_some

pub returns-clause-one : goal.returns-clause-one
returns-clause-one c = in_one
