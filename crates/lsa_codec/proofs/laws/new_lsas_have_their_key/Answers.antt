use Rattle.lsa_codec.proofs.Rewritten.{summary_new, external_new}
use Rattle.lsa_codec.proofs.laws.new_lsas_have_their_key.Goals as goal

pub returns-clause-summary : goal.returns-clause-summary
returns-clause-summary c = summary_new

pub returns-clause-external : goal.returns-clause-external
returns-clause-external c = external_new
