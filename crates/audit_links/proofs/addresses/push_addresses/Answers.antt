use Rattle.std.proofs.Common.{◌++◌, ◌∙◌, List, ap}
use Rattle.std.specs.List.{flat_map}
use Rattle.lsa_codec.specs.declared.address.RouterId.{RouterId}
use Rattle.area_routes.proofs.AddsLemmas.{flat_map_adds}
use Rattle.link_report.proofs.PushedLemmas.{pushed_all, pushed_at, pushed_none}
use Rattle.audit_links.specs.Addresses.{addresses_of}
use Rattle.audit_links.specs.Neighbors.{AtAddress}
use Rattle.audit_links.proofs.addresses.push_addresses.Goals as goal

abbrev no_router : RouterId
no_router = record { 0 = 0 }

pub loop-router-init : goal.loop-router-init
loop-router-init g c = pushed_none (flat_map_adds (addresses_of c.args.area.now)) c.args.found.now.items c.routers-router-items.result.now

pub loop-router-preserved : goal.loop-router-preserved
loop-router-preserved g c =
    pushed_at (flat_map_adds (addresses_of c.args.area.now)) c.args.found.now.items c.routers-router-items.result.now c.loop-router.router-index no_router _ _
    c.loop-router-test.true c.loop-router.invariant
    (c.in_ok-append.ensures.items ∙ ap (λ (l : List AtAddress). c.loop-router.found.items ++ l) c.in_ok-more.ensures)

pub returns : goal.returns
returns g c =
    pushed_all (flat_map_adds (addresses_of c.args.area.now)) c.args.found.now.items c.routers-router-items.result.now c.loop-router.router-index
    c.loop-router.found.items c.loop-router-test.false c.loop-router.invariant
    ∙ ap (λ (routers : List RouterId). c.args.found.now.items ++ flat_map (addresses_of c.args.area.now) routers) c.routers-router-items.ensures
