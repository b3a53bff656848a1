use Rattle.std.proofs.Common.{[], ◌∙◌, List, ap}
use Rattle.std.specs.List.{flat_map}
use Rattle.lsa_codec.specs.declared.address.RouterId.{RouterId}
use Rattle.lsdb.specs.Slots.{lists_of}
use Rattle.area_routes.proofs.AddsLemmas.{flat_map_adds}
use Rattle.audit_places.specs.Places.{PlaceValue}
use Rattle.forwarding.specs.Matches.{router_in}
use Rattle.audit_routes.specs.OwnExternals.{own_places}
use Rattle.audit_routes.proofs.Loops.{ended, one_more_at}
use Rattle.audit_routes.proofs.own_external.places_of.Goals as goal

abbrev no_router : RouterId
no_router = record { 0 = 0 }

pub loop-router-preserved : goal.loop-router-preserved
loop-router-preserved g c =
    let at : RouterId → List PlaceValue = λ router. own_places (router_in (lists_of c.args.database.now) router) in
    one_more_at (flat_map_adds at) [] c.deref-router-items.result.now c.loop-router.router-index no_router c.loop-router.places.items _
    c.loop-router-test.true c.loop-router.invariant c.in_ok-push_if_originator.ensures

pub returns : goal.returns
returns g c =
    let at : RouterId → List PlaceValue = λ router. own_places (router_in (lists_of c.args.database.now) router) in
    ended (flat_map_adds at) [] c.deref-router-items.result.now c.loop-router.router-index c.loop-router.places.items c.loop-router-test.false
    c.loop-router.invariant
    ∙ ap (λ (routers : List RouterId). flat_map at routers) (c.deref-router-items.ensures.value ∙ c.in_ok-attached.ensures)
