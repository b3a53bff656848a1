use Rattle.std.proofs.Common.{◌∙◌, eqb, List, ap}
use Rattle.std.specs.List.{list_any}
use Rattle.lsa_codec.specs.declared.address.RouterId.{RouterId}
use Rattle.forwarding.proofs.WaysBack.{reaches_is}
use Rattle.forwarding.proofs.graph.ForwardingGraph.reaches.Goals as goal

pub returns : goal.returns
returns g c =
    reaches_is c.args.self.now c.args.from c.args.to c.in_ok-reached.reached.items c.in_ok-reached.ensures c.contains.result
    (c.contains.ensures.value ∙ ap (λ (rs : List RouterId). list_any (λ r. eqb r.0 c.args.to.0) rs) c.deref.ensures.value)
