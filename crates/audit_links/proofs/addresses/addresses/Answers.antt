use Rattle.std.proofs.Common.{◌∙◌, ap}
use Rattle.std.specs.List.{flat_map}
use Rattle.std.proofs.lemmas.Result.{IfOk-weaker}
use Rattle.area_graph.specs.Rising.{rising}
use Rattle.audit_links.specs.Addresses.{addresses_in}
use Rattle.audit_links.specs.Neighbors.{at_address_cmp}
use Rattle.audit_links.proofs.addresses.addresses.Goals as goal

pub returns : goal.returns
returns g c =
    let found = c.in_ok-found.ensures ∙ ap (flat_map addresses_in) (c.deref.ensures.value ∙ c.in_ok-areas.ensures) in
    IfOk-weaker c.rising.result _ _ (λ sorted is. is ∙ ap (rising at_address_cmp) (c.deref-2.ensures.value ∙ found)) c.rising.ensures
