use Rattle.std.proofs.Common.{◌++◌, ◌∙◌, List, ap}
use Rattle.std.specs.List.{flat_map}
use Rattle.lsa_codec.specs.declared.address.RouterId.{RouterId}
use Rattle.area_routes.proofs.AddsLemmas.{flat_map_adds}
use Rattle.link_report.proofs.PushedLemmas.{pushed_all, pushed_at, pushed_none}
use Rattle.audit_areas.proofs.finding.push_places_in.Goals as goal

abbrev no_router : RouterId
no_router = record { 0 = 0 }

pub loop-router-init : goal.loop-router-init
loop-router-init g c =
    let at = g.F.Finding.finds c.args.finding.now c.args.areas.now c.args.area.now in
    pushed_none (flat_map_adds at) c.args.places.now.items c.routers-router-items.result.now

pub loop-router-preserved : goal.loop-router-preserved
loop-router-preserved g c =
    let at = g.F.Finding.finds c.args.finding.now c.args.areas.now c.args.area.now in
    pushed_at (flat_map_adds at) c.args.places.now.items c.routers-router-items.result.now c.loop-router.router-index no_router _ _
    c.loop-router-test.true c.loop-router.invariant c.in_ok-push_found.ensures

pub returns : goal.returns
returns g c =
    let at = g.F.Finding.finds c.args.finding.now c.args.areas.now c.args.area.now in
    pushed_all (flat_map_adds at) c.args.places.now.items c.routers-router-items.result.now c.loop-router.router-index c.loop-router.places.items
    c.loop-router-test.false c.loop-router.invariant
    ∙ ap (λ (routers : List RouterId). c.args.places.now.items ++ flat_map at routers) c.routers-router-items.ensures
