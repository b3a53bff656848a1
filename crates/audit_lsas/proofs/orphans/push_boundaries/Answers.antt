use Rattle.std.proofs.Common.{◌++◌, ◌∙◌, List, ap}
use Rattle.lsdb.specs.Slots.{lists_of}
use Rattle.lsa_codec.specs.declared.address.AreaId.{AreaId}
use Rattle.lsa_codec.specs.declared.address.RouterId.{RouterId}
use Rattle.area_routes.proofs.AddsLemmas.{flat_map_adds}
use Rattle.link_report.proofs.PushedLemmas.{pushed_all, pushed_at, pushed_none}
use Rattle.audit_lsas.specs.Orphans.{boundaries_in}
use Rattle.audit_lsas.proofs.orphans.push_boundaries.Goals as goal

abbrev no_area : AreaId
no_area = record { 0 = 0 }

pub loop-area-init : goal.loop-area-init
loop-area-init g c = pushed_none (flat_map_adds (boundaries_in (lists_of c.args.database.now))) c.args.found.now.items c.args.areas.now

pub loop-area-preserved : goal.loop-area-preserved
loop-area-preserved g c =
    pushed_at (flat_map_adds (boundaries_in (lists_of c.args.database.now))) c.args.found.now.items c.args.areas.now c.loop-area.area-index no_area
    c.loop-area.found.items _ c.loop-area-test.true c.loop-area.invariant
    (c.in_ok-append.ensures.items ∙ ap (λ (l : List RouterId). c.loop-area.found.items ++ l) c.in_ok-more.ensures)

pub returns : goal.returns
returns g c =
    pushed_all (flat_map_adds (boundaries_in (lists_of c.args.database.now))) c.args.found.now.items c.args.areas.now c.loop-area.area-index
    c.loop-area.found.items c.loop-area-test.false c.loop-area.invariant
