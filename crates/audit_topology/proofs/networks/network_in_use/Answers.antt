use Rattle.std.proofs.Common.{◌∙◌, ap}
use Rattle.std.proofs.lemmas.Result.{IfOk-weaker}
use Rattle.lsa_codec.specs.Views.{net_of_lsa}
use Rattle.audit_topology.specs.Networks.{network_if_in_use}
use Rattle.audit_topology.proofs.InUse.{of_network, of_other}
use Rattle.audit_topology.proofs.networks.network_in_use.Goals as goal

pub returns-in-Some : goal.returns-in-Some
returns-in-Some g c =
    let areas = c.args.areas.now in
    let area = c.args.area.now in
    IfOk-weaker c.network_if_in_use.result _ _
    (λ found is. is
    ∙ (λ i. network_if_in_use areas area ((c.net.ensures ∙ ap net_of_lsa c.in-Some.ensures.0) i) ((c.key.ensures i).id))
    ∙ of_network areas area c.args.lsa.now c.in-Some.ensures.1)
    c.network_if_in_use.ensures

pub returns-in-None : goal.returns-in-None
returns-in-None g c = of_other c.args.areas.now c.args.area.now c.args.lsa.now c.in-None.ensures
