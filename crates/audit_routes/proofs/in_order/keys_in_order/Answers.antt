use Rattle.std.proofs.Common.{◌∙◌, List, ap}
use Rattle.std.proofs.lemmas.Result.{IfOk-weaker}
use Rattle.lsa_codec.specs.Order.{key_cmp}
use Rattle.lsa_codec.specs.declared.key.Key.{Key}
use Rattle.area_graph.specs.Rising.{rising}
use Rattle.audit_routes.proofs.in_order.keys_in_order.Goals as goal

pub returns : goal.returns
returns g c =
    IfOk-weaker c.rising.result _ _
    (λ v h. h ∙ ap (λ (keys : List Key). rising key_cmp keys) (c.deref.ensures.value ∙ c.in_ok-keys.ensures)) c.rising.ensures
