use Rattle.std.proofs.Common.{◌∙◌, ap}
use Rattle.audit_places.specs.Places.{several_networks}
use Rattle.audit_topology.proofs.networks.place_of_prefix.Goals as goal

pub returns : goal.returns
returns g c = c.of.ensures ∙ ap (several_networks c.args.prefix) c.in_ok-addresses.ensures
