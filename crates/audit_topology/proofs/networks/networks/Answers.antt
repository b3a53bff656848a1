use Rattle.std.proofs.Common.{◌∙◌, ap}
use Rattle.std.proofs.lemmas.Result.{IfOk-weaker}
use Rattle.area_graph.specs.Rising.{rising}
use Rattle.audit_topology.specs.Networks.{of_prefix_cmp}
use Rattle.audit_topology.proofs.networks.networks.Goals as goal

pub returns : goal.returns
returns g c =
    IfOk-weaker c.rising.result _ _ (λ found is. is ∙ ap (rising of_prefix_cmp) (c.deref.ensures.value ∙ c.in_ok-found.ensures)) c.rising.ensures
