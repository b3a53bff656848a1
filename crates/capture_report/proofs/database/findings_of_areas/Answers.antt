use Rattle.std.proofs.Common.{◌∷◌, [], ap, map, ◌∙◌}
use Rattle.std.proofs.lemmas.List.{map-append}
use Rattle.lsdb.specs.Lists.{AreaHead, areas_of}
use Rattle.lsdb.specs.Slots.{lists_of}
use Rattle.capture_report.specs.DatabaseFindings.{IsPartOf}
use Rattle.capture_report.proofs.Parts.{zip_more}
use Rattle.capture_report.proofs.database.findings_of_areas.Goals as goal

pub loop-i-preserved : goal.loop-i-preserved
loop-i-preserved g c =
    let db = lists_of c.args.database.now in
    let head : AreaHead = record { id = c.area-is_stub.result.0.0; is_stub = c.area-is_stub.result.1 } in
    zip_more (areas_of db) c.loop-i.i head c.area-is_stub.ensures (IsPartOf db) _ _ c.in_ok-findings_of_area.field-0.items c.loop-i.invariant
    c.in_ok-findings_of_area.ensures
    (ap (map (λ part. part.items)) c.in_ok-push.ensures.items ∙ map-append (λ part. part.items) c.loop-i.parts.items (c.in_ok-findings_of_area.field-0 ∷ []))
