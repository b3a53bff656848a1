use Rattle.std.proofs.Common.{[]}
use Rattle.lsa_codec.specs.declared.address.AreaId.{AreaId}
use Rattle.area_routes.proofs.AddsLemmas.{flat_map_adds}
use Rattle.audit_routes.specs.NotDue.{places_in}
use Rattle.audit_routes.proofs.Loops.{ended, one_more_at}
use Rattle.audit_routes.proofs.not_due.Refresh.places_in_all.Goals as goal

abbrev no_area : AreaId
no_area = record { 0 = 0 }

pub loop-area-preserved : goal.loop-area-preserved
loop-area-preserved g c =
    one_more_at (flat_map_adds (places_in c.args.self.now c.args.metrics)) [] c.args.areas.now c.loop-area.area-index no_area
    c.loop-area.places.items _ c.loop-area-test.true c.loop-area.invariant c.in_ok-push_area.ensures

pub returns : goal.returns
returns g c =
    ended (flat_map_adds (places_in c.args.self.now c.args.metrics)) [] c.args.areas.now c.loop-area.area-index
    c.loop-area.places.items c.loop-area-test.false c.loop-area.invariant
