use Rattle.lsa_codec.proofs.FieldsMade.{metric_fields}
use Rattle.lsa_codec.proofs.laws.metric_alone_changes.Goals as goal

pub returns : goal.returns
returns c = metric_fields
