use Rattle.std.proofs.Common.{get_or, ◌++◌, ◌∙◌, List, ap}
use Rattle.lsa_codec.specs.declared.address.RouterId.{RouterId}
use Rattle.lsdb.specs.Slots.{lists_of}
use Rattle.area_routes.proofs.AddsLemmas.{flat_map_adds}
use Rattle.link_report.specs.Areas.{UsedAreaValue, used_areas}
use Rattle.link_report.specs.Links.{links_in_areas}
use Rattle.link_report.proofs.PushedLemmas.{made_all, made_at}
use Rattle.link_report.proofs.link_line.link_lines.Goals as goal

abbrev no_router : RouterId
no_router = record { 0 = 0 }

pub loop-router-preserved : goal.loop-router-preserved
loop-router-preserved g c =
    let areas = used_areas (lists_of c.args.database.now) in
    let i = c.loop-router.router-index in
    let router : RouterId = get_or c.args.routers.now i no_router in
    made_at (flat_map_adds (links_in_areas areas)) c.args.routers.now i no_router c.loop-router.lines.items _ c.loop-router-test.true
    c.loop-router.invariant
    (c.in_ok-push_links_in_areas.ensures
    ∙ ap (λ (all : List UsedAreaValue). c.loop-router.lines.items ++ links_in_areas all router) (c.deref.ensures.value ∙ c.in_ok-areas.ensures))

pub returns : goal.returns
returns g c =
    made_all (flat_map_adds (links_in_areas (used_areas (lists_of c.args.database.now)))) c.args.routers.now c.loop-router.router-index
    c.loop-router.lines.items c.loop-router-test.false c.loop-router.invariant
