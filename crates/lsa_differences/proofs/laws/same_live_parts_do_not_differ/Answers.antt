use Rattle.lsa_differences.proofs.NoDifferences.{no_differences}
use Rattle.lsa_differences.proofs.laws.same_live_parts_do_not_differ.Goals as goal

pub returns : goal.returns
returns c baseline now same = no_differences baseline now same
