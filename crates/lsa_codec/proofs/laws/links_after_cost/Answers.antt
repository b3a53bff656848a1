use Rattle.lsa_codec.proofs.FieldsMade.{cost_links}
use Rattle.lsa_codec.proofs.laws.links_after_cost.Goals as goal

pub returns : goal.returns
returns c = cost_links
