use Rattle.lsdb.proofs.KeyLemmas.{network_keys_cover}
use Rattle.lsdb.proofs.lookup.network_keys.Goals as goal

pub returns-clause-covers : goal.returns-clause-covers
returns-clause-covers c = network_keys_cover c.args.network
