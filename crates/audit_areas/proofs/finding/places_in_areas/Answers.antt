use Rattle.area_routes.proofs.AddsLemmas.{flat_map_adds}
use Rattle.link_report.proofs.PushedLemmas.{made_all, made_more}
use Rattle.audit_areas.specs.Findings.{places_in}
use Rattle.audit_areas.proofs.finding.places_in_areas.Goals as goal

pub loop-area-preserved : goal.loop-area-preserved
loop-area-preserved g c =
    made_more (flat_map_adds (places_in (g.F.Finding.finds c.args.finding.now) c.args.areas.now)) c.args.areas.now c.loop-area.area-index
    c.area-item.result _ _ c.loop-area-test.true c.area-item.is c.loop-area.invariant c.in_ok-push_places_in.ensures

pub returns : goal.returns
returns g c =
    made_all (flat_map_adds (places_in (g.F.Finding.finds c.args.finding.now) c.args.areas.now)) c.args.areas.now c.loop-area.area-index
    c.loop-area.places.items c.loop-area-test.false c.loop-area.invariant
