use Rattle.std.proofs.Common.{[], ◌∷◌, ◌++◌, ◌∙◌, List, map, ap}
use Rattle.lsa_codec.specs.declared.address.RouterId.{RouterId}
use Rattle.lsdb.specs.Slots.{lists_of}
use Rattle.area_routes.proofs.AddsLemmas.{map_adds}
use Rattle.link_report.specs.Routers.{RouterValue, router_value}
use Rattle.link_report.proofs.PushedLemmas.{made_all, made_at}
use Rattle.link_report.proofs.router_line.router_lines.Goals as goal

abbrev no_router : RouterId
no_router = record { 0 = 0 }

pub loop-router-preserved : goal.loop-router-preserved
loop-router-preserved g c =
    let db = lists_of c.args.database.now in
    made_at (map_adds (router_value db)) c.deref-router-items.result.now c.loop-router.router-index no_router c.loop-router.lines.items _
    c.loop-router-test.true c.loop-router.invariant
    (c.in_ok-push.ensures.items ∙ ap (λ (v : RouterValue). c.loop-router.lines.items ++ v ∷ []) c.in_ok-router_line.ensures)

pub returns : goal.returns
returns g c =
    let db = lists_of c.args.database.now in
    made_all (map_adds (router_value db)) c.deref-router-items.result.now c.loop-router.router-index c.loop-router.lines.items
    c.loop-router-test.false c.loop-router.invariant
    ∙ ap (λ (ids : List RouterId). map (router_value db) ids) (c.deref-router-items.ensures.value ∙ c.in_ok-attached.ensures)
