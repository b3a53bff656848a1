use Rattle.std.proofs.Common.{◌≡◌, ◌∙◌, [], ◌∷◌, ◌++◌, List, map, ap}
use Rattle.std.proofs.lemmas.List.{take_all}
use Rattle.lsa_codec.specs.declared.address.RouterId.{RouterId}
use Rattle.lsdb.specs.Slots.{lists_of}
use Rattle.area_routes.proofs.AddsLemmas.{adds_at, map_adds}
use Rattle.forwarding.specs.Matches.{RouterValue, router_in}
use Rattle.forwarding.proofs.Sorted.{sorted_routers}
use Rattle.forwarding.proofs.forwarding.Forwarding.of.Goals as goal

abbrev no_router : RouterId
no_router = record { 0 = 0 }

pub loop-router-init : goal.loop-router-init
loop-router-init g c = record { routers = c.new-routers.ensures.items; basis = c.new-basis.ensures (lists_of c.args.database.now) }

pub returns : goal.returns
returns g c =
    let db = lists_of c.args.database.now in
    record {
      graphs = c.in_ok-graphs.ensures;
      routers = c.loop-router.invariant.routers
          ∙ ap (λ (rs : List RouterId). map (router_in db) rs)
          (take_all c.loop-router.router-index c.deref-router-items.result.now c.loop-router-test.false ∙ c.deref-router-items.ensures.value
          ∙ c.in_ok-attached.ensures);
    }

pub loop-router-preserved : goal.loop-router-preserved
loop-router-preserved g c =
    let db = lists_of c.args.database.now in
    record {
      routers = adds_at (map_adds (router_in db)) (λ (cs : List RouterValue). c.loop-router.routers.items ≡ cs) (λ (cs : List RouterValue). c.push.new.self.items ≡ cs)
          c.deref-router-items.result.now c.loop-router.router-index no_router c.loop-router-test.true c.loop-router.invariant.routers (λ cs was.
          c.in_ok-push.ensures.items ∙ ap (λ (l : List RouterValue). l ++ c.in_ok-over.field-0 ∷ []) was
          ∙ ap (λ (r : RouterValue). cs ++ r ∷ []) c.in_ok-over.ensures.routes);
      basis = c.over.ensures.basis;
    }

pub invariant_of-result : goal.invariant_of-result
invariant_of-result g c =
    let db = lists_of c.args.database.now in
    sorted_routers db c.loop-router.routers.items
    (c.loop-router.invariant.routers
    ∙ ap (λ (rs : List RouterId). map (router_in db) rs)
    (take_all c.loop-router.router-index c.deref-router-items.result.now c.loop-router-test.false ∙ c.deref-router-items.ensures.value
    ∙ c.in_ok-attached.ensures))
