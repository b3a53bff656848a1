use Rattle.lsa_changes.proofs.SameLsaLemmas.{same_content}
use Rattle.lsa_changes.proofs.laws.same_content_does_not_differ.Goals as goal

pub returns : goal.returns
returns c before now same = same_content before now same
