use Rattle.std.proofs.Common.{◌∙◌, ◌++◌}
use Rattle.lsdb.specs.Lists.{AreaHead, areas_of}
use Rattle.lsdb.specs.Slots.{lists_of}
use Rattle.capture_report.specs.Borders.{routers_in}
use Rattle.capture_report.proofs.Parts.{flat_map_next}
use Rattle.capture_report.proofs.borders.routers_that_pass.Goals as goal

pub loop-i-preserved : goal.loop-i-preserved
loop-i-preserved g c =
    let db = lists_of c.args.database.now in
    let head : AreaHead = record { id = c.area-is_stub.result.0.0; is_stub = c.area-is_stub.result.1 } in
    c.in_ok-append.ensures.items
    ∙ (λ i. c.loop-i.invariant i ++ c.in_ok-routers_in.ensures i)
    ∙ flat_map_next (areas_of db) c.loop-i.i head c.area-is_stub.ensures (routers_in c.args.test db)
