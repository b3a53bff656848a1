use Rattle.lsa_codec.proofs.FieldsMade.{stub_links}
use Rattle.lsa_codec.proofs.laws.links_after_stub.Goals as goal

pub returns : goal.returns
returns c = stub_links
