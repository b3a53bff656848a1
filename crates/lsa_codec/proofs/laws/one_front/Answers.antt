use Rattle.lsa_codec.proofs.Complete.{one_front}
use Rattle.lsa_codec.proofs.laws.one_front.Goals as goal

pub returns : goal.returns
returns c = one_front
