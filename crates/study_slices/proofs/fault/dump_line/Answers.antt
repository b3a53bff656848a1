use Rattle.std.proofs.Common.{append_assoc, rules}
use Rattle.study_slices.proofs.fault.dump_line.Goals as goal

pub returns : goal.returns
returns g c = search (rules, append_assoc)
