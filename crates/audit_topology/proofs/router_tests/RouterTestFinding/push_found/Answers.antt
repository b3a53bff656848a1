use Rattle.std.proofs.Common.{[], ◌∷◌, ◌++◌, ◌∙◌, Bool, cond, sym, ap}
use Rattle.std.proofs.lemmas.List.{append-nil}
use Rattle.lsa_codec.specs.declared.address.AreaId.{AreaId}
use Rattle.audit_places.specs.Places.{PlaceValue, at_lsa}
use Rattle.audit_topology.specs.RouterTests.{router_lsa_name}
use Rattle.audit_topology.proofs.router_tests.RouterTestFinding.push_found.Goals as goal

pub returns-then-not-passes : goal.returns-then-not-passes
returns-then-not-passes g c =
    let place = at_lsa (router_lsa_name c.args.area.now.area c.args.router) in
    sym (append-nil c.args.places.now.items)
    ∙ ap (λ (b : Bool). c.args.places.now.items ++ cond b (place ∷ []) []) (sym c.if-not-passes.true ∙ c.passes.ensures)

pub returns : goal.returns
returns g c =
    let place = at_lsa (router_lsa_name c.args.area.now.area c.args.router) in
    c.in_ok-push.ensures.items
    ∙ ap (λ (p : PlaceValue). c.args.places.now.items ++ p ∷ [])
    (c.of.ensures ∙ ap at_lsa (c.router_lsa_name-lsa.ensures ∙ ap (λ (a : AreaId). router_lsa_name a c.args.router) c.area.ensures))
    ∙ ap (λ (b : Bool). c.args.places.now.items ++ cond b (place ∷ []) []) (sym c.if-not-passes.false ∙ c.passes.ensures)
