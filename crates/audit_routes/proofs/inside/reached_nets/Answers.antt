use Rattle.std.proofs.Common.{◌∙◌, List, ap}
use Rattle.std.proofs.lemmas.Result.{IfOk-weaker}
use Rattle.lsa_codec.specs.Order.{prefix_cmp}
use Rattle.lsa_codec.specs.Prefix.{Net}
use Rattle.area_graph.specs.Rising.{rising}
use Rattle.audit_routes.proofs.inside.reached_nets.Goals as goal

pub returns : goal.returns
returns g c =
    IfOk-weaker c.rising.result _ _
    (λ v h. h ∙ ap (λ (nets : List Net). rising prefix_cmp nets) (c.deref.ensures.value ∙ c.in_ok-nets.ensures)) c.rising.ensures
