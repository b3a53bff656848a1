use Rattle.lsa_codec.proofs.Complete.{decoded_again}
use Rattle.lsa_codec.proofs.laws.decoding_is_complete.Goals as goal

pub returns : goal.returns
returns c = decoded_again
