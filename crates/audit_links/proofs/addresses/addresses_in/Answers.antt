use Rattle.area_routes.proofs.AddsLemmas.{flat_map_adds}
use Rattle.link_report.proofs.PushedLemmas.{made_all, made_more}
use Rattle.audit_links.specs.Addresses.{addresses_in}
use Rattle.audit_links.proofs.addresses.addresses_in.Goals as goal

pub loop-area-preserved : goal.loop-area-preserved
loop-area-preserved g c =
    made_more (flat_map_adds addresses_in) c.args.areas.now c.loop-area.area-index c.area-item.result _ _ c.loop-area-test.true c.area-item.is
    c.loop-area.invariant c.in_ok-push_addresses.ensures

pub returns : goal.returns
returns g c =
    made_all (flat_map_adds addresses_in) c.args.areas.now c.loop-area.area-index c.loop-area.found.items c.loop-area-test.false c.loop-area.invariant
