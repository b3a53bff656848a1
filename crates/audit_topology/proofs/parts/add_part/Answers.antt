use Rattle.std.proofs.Common.{[], ◌∷◌, ◌++◌, ◌∙◌, Bool, List, cond, sym, ap}
use Rattle.lsa_codec.specs.declared.address.RouterId.{RouterId}
use Rattle.audit_topology.specs.Parts.{is_in_some, part_of}
use Rattle.audit_topology.proofs.parts.add_part.Goals as goal

abbrev either : List (List RouterId) → List RouterId → Bool → List (List RouterId)
either parts part b = cond b parts (parts ++ part ∷ [])

pub returns-then-is_in_some : goal.returns-then-is_in_some
returns-then-is_in_some g c =
    let parts = c.args.parts.now.items in
    ap (either parts (part_of c.args.area.now c.args.router))
    (sym c.if-is_in_some.true ∙ c.is_in_some.ensures ∙ ap (is_in_some c.args.router) c.deref.ensures.value)

pub returns : goal.returns
returns g c =
    let parts = c.args.parts.now.items in
    c.in_ok-push.ensures.items ∙ ap (λ (part : List RouterId). parts ++ part ∷ []) c.in_ok-routers.ensures
    ∙ ap (either parts (part_of c.args.area.now c.args.router))
    (sym c.if-is_in_some.false ∙ c.is_in_some.ensures ∙ ap (is_in_some c.args.router) c.deref.ensures.value)
