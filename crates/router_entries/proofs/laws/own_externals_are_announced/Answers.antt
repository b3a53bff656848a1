use Rattle.router_entries.proofs.Own.{described}
use Rattle.router_entries.proofs.laws.own_externals_are_announced.Goals as goal

pub returns : goal.returns
returns c = λ db router net. described db router net
