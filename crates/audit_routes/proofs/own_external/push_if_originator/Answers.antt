use Rattle.std.proofs.Common.{◌∙◌, ◌++◌, List, ap, sym}
use Rattle.std.proofs.lemmas.List.{append-nil}
use Rattle.lsa_codec.specs.declared.address.RouterId.{RouterId}
use Rattle.lsdb.specs.Slots.{lists_of}
use Rattle.audit_places.specs.Places.{PlaceValue}
use Rattle.audit_routers.specs.Linked.{has_router}
use Rattle.audit_routes.proofs.Originators.{no_own_places}
use Rattle.audit_routes.proofs.own_external.push_if_originator.Goals as goal

pub returns-then-not-has : goal.returns-then-not-has
returns-then-not-has g c =
    let none = no_own_places (lists_of c.args.database.now) c.args.router
    (ap (λ (routers : List RouterId). has_router routers c.args.router) (sym c.requires) ∙ sym c.has.ensures ∙ c.if-not-has.true) in
    sym (append-nil c.args.places.now.items) ∙ ap (λ (l : List PlaceValue). c.args.places.now.items ++ l) (sym none)
