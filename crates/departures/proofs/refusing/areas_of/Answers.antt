use Rattle.std.proofs.Common.{List, map, ap, ◌∙◌, arith}
use Rattle.std.proofs.lemmas.List.{take_all}
use Rattle.lsdb.specs.Lists.{AreaHead, areas_of}
use Rattle.lsdb.specs.Slots.{lists_of}
use Rattle.event_links.specs.Selections.{id_of}
use Rattle.departures.proofs.AreaIds.{one_more}
use Rattle.departures.proofs.refusing.areas_of.Goals as goal

pub loop-i-preserved : goal.loop-i-preserved
loop-i-preserved g c =
    let head : AreaHead = record { id = c.area.result.0.0; is_stub = c.area.result.1 } in
    let heads : List AreaHead = areas_of (lists_of c.args.database.now) in
    c.in_ok-push.ensures.items
    ∙ one_more heads c.loop-i.i head c.loop-i.areas.items (omega (arith, c.area_count-i-end.ensures, c.loop-i-test.true)) c.area.ensures c.loop-i.invariant

pub returns : goal.returns
returns g c =
    let heads : List AreaHead = areas_of (lists_of c.args.database.now) in
    c.loop-i.invariant ∙ ap (map id_of) (take_all c.loop-i.i heads (omega (arith, c.area_count-i-end.ensures, c.loop-i-test.false)))
