use Rattle.lsa_codec.proofs.FieldsMade.{summary_fields, external_fields, external_further}
use Rattle.lsa_codec.proofs.laws.new_lsas_have_their_fields.Goals as goal

pub returns-clause-summary : goal.returns-clause-summary
returns-clause-summary c = summary_fields

pub returns-clause-external : goal.returns-clause-external
returns-clause-external c = external_fields

pub returns-clause-further : goal.returns-clause-further
returns-clause-further c = external_further
