use Rattle.std.proofs.Common.{◌++◌, ◌∙◌, List, append_assoc, ap}
use Rattle.area_routes.proofs.AddsLemmas.{flat_map_adds}
use Rattle.audit_places.specs.Places.{PlaceValue}
use Rattle.audit_areas.specs.Findings.{places_in}
use Rattle.link_report.proofs.PushedLemmas.{made_all, made_more}
use Rattle.audit_links.specs.declared.finding.LinkFinding.TheVariants.{OneWay}
use Rattle.audit_links.specs.LinkFindings.{found_on_links, one_way_in}
use Rattle.audit_links.specs.OneWay.{one_way_members}
use Rattle.audit_links.proofs.one_way.one_way_in_all.Goals as goal

pub loop-area-preserved : goal.loop-area-preserved
loop-area-preserved g c =
    let areas = c.args.areas.now in
    let area = c.area-item.result in
    let places = c.loop-area.places.items in
    made_more (flat_map_adds (one_way_in areas)) areas c.loop-area.area-index area places _ c.loop-area-test.true c.area-item.is c.loop-area.invariant
    (c.in_ok-push_members.ensures ∙ ap (λ (l : List PlaceValue). l ++ one_way_members area) c.in_ok-push_places_in.ensures
    ∙ append_assoc places (places_in (found_on_links OneWay) areas area) (one_way_members area))

pub returns : goal.returns
returns g c =
    made_all (flat_map_adds (one_way_in c.args.areas.now)) c.args.areas.now c.loop-area.area-index c.loop-area.places.items c.loop-area-test.false
    c.loop-area.invariant
