use Rattle.std.proofs.Common.{◌∙◌, ap}
use Rattle.std.specs.List.{filter_map}
use Rattle.std.proofs.lemmas.Result.{IfOk-weaker}
use Rattle.audit_topology.specs.Networks.{network_in_use}
use Rattle.audit_topology.proofs.networks.networks_in.Goals as goal

pub returns : goal.returns
returns g c =
    IfOk-weaker c.networks_of.result _ _
    (λ found is. is ∙ ap (filter_map (network_in_use c.args.areas.now c.args.area.now)) (c.deref.ensures.value ∙ c.in_ok-lsas.ensures))
    c.networks_of.ensures
