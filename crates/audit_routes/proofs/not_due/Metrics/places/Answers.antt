use Rattle.std.proofs.Common.{◌∙◌, List, ap}
use Rattle.std.specs.List.{flat_map}
use Rattle.std.proofs.lemmas.Result.{IfOk-weaker}
use Rattle.lsa_codec.specs.declared.address.AreaId.{AreaId}
use Rattle.lsdb.specs.Slots.{lists_of}
use Rattle.link_report.specs.Areas.{area_ids}
use Rattle.audit_routes.specs.NotDue.{RefreshValue, places_in}
use Rattle.audit_routes.proofs.not_due.Metrics.places.Goals as goal

pub returns : goal.returns
returns g c =
    let db = lists_of c.args.database.now in
    IfOk-weaker c.places_in_all.result _ _
    (λ v h. h
    ∙ ap (λ (areas : List AreaId). flat_map (places_in c.in_ok-refresh.refresh c.args.self) areas) (c.deref.ensures.value ∙ c.in_ok-areas.ensures)
    ∙ ap (λ (r : RefreshValue). flat_map (places_in r c.args.self) (area_ids db)) c.in_ok-refresh.ensures)
    c.places_in_all.ensures
