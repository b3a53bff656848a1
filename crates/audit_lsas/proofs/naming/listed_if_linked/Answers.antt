use Rattle.std.proofs.Common.{[], ◌∙◌, Bool, List, cond, map, sym, ap}
use Rattle.std.proofs.lemmas.Result.{IfOk-weaker}
use Rattle.lsa_codec.specs.declared.address.RouterId.{RouterId}
use Rattle.audit_lsas.proofs.naming.listed_if_linked.Goals as goal

-- the routers, if one has a link
abbrev if_linked : List RouterId → Bool → List RouterId
if_linked routers b = cond b routers []

pub returns-then-not-has_joined : goal.returns-then-not-has_joined
returns-then-not-has_joined g c =
    c.new.ensures.items
    ∙ ap (if_linked (map (λ member. member.router) c.args.members.now)) (sym c.if-not-has_joined.true ∙ c.has_joined.ensures)

pub returns : goal.returns
returns g c =
    IfOk-weaker c.listed.result _ _
    (λ routers is. is
    ∙ ap (if_linked (map (λ member. member.router) c.args.members.now)) (sym c.if-not-has_joined.false ∙ c.has_joined.ensures))
    c.listed.ensures
