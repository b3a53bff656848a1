use Rattle.lsa_instances.proofs.Rising.{keys_rise}
use Rattle.lsa_instances.proofs.laws.keys_rise.Goals as goal

pub returns : goal.returns
returns g c = λ flushed reported newest scope n. keys_rise scope flushed reported newest n
