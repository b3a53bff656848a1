use Rattle.network_names.proofs.OneAddress.{names_proper_in}
use Rattle.network_names.proofs.laws.names_have_one_address.Goals as goal

pub returns : goal.returns
returns c = names_proper_in
