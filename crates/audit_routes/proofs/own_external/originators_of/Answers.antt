use Rattle.std.proofs.Common.{◌∙◌, ℕ, List, ap}
use Rattle.std.proofs.lemmas.Result.{IfOk-weaker}
use Rattle.lsa_codec.specs.Order.{router_cmp}
use Rattle.lsa_codec.specs.declared.address.RouterId.{RouterId}
use Rattle.area_graph.specs.Rising.{rising}
use Rattle.audit_routes.specs.OwnExternals.{originators_of}
use Rattle.audit_routes.proofs.own_external.originators_of.Goals as goal

pub returns : goal.returns
returns g c =
    IfOk-weaker c.of.result _ _
    (λ v h. h ∙ ap (λ (l : List RouterId). rising router_cmp l) (c.deref.ensures.value ∙ c.in_ok-routers.ensures)
    ∙ ap (λ (lsas : List (List ℕ)). originators_of lsas) c.lsas.ensures.lsas)
    c.of.ensures
