use Rattle.std.proofs.Common.{◌+◌, List, ℕ, map, sym, ap, ◌∙◌, arith}
use Rattle.std.proofs.lemmas.List.{take_all}
use Rattle.lsdb.specs.Lists.{AreaHead, areas_of}
use Rattle.lsdb.specs.Slots.{lists_of}
use Rattle.event_links.specs.Selections.{id_of}
use Rattle.event_links.proofs.Gathered.{ids_more}
use Rattle.event_links.proofs.selecting.area_ids.Goals as goal

pub loop-number-preserved : goal.loop-number-preserved
loop-number-preserved g c =
    let head : AreaHead = record { id = c.area-is_stub.result.0.0; is_stub = c.area-is_stub.result.1 } in
    ids_more (areas_of (lists_of c.args.database.now)) c.loop-number.number (c.loop-number.number + 1) head _ _ (omega arith) c.area-is_stub.ensures c.loop-number.invariant c.in_ok-push.ensures.items

pub returns : goal.returns
returns g c =
    let areas : List AreaHead = areas_of (lists_of c.args.database.now) in
    c.loop-number.invariant
    ∙ ap (map id_of) (take_all c.loop-number.number areas (omega (arith, c.area_count-number-end.ensures, c.loop-number-test.false)))
