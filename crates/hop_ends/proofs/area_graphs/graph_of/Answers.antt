use Rattle.std.proofs.Common.{◌≡◌, ◌∙◌, sym, subst}
use Rattle.lsdb.specs.Lists.{AreaHead}
use Rattle.lsdb.specs.Slots.{lists_of}
use Rattle.area_graph.specs.Graphs.{IsGraphOf}
use Rattle.area_graph.proofs.MemberLemmas.{Some-same}
use Rattle.routing_table.specs.AreaLsas.{lsas_in}
use Rattle.hop_ends.proofs.FirstGraphs.{not_absent}
use Rattle.hop_ends.proofs.area_graphs.graph_of.Goals as goal

pub unreachable-requires : goal.unreachable-requires
unreachable-requires g c =
    let head : AreaHead = record { id = c.area-is_stub.result.0.0; is_stub = c.area-is_stub.result.1 } in
    not_absent c.args.database.now c.args.i head c.assert_valid.ensures c.area-is_stub.ensures c.in-Err-NoArea.field-0 c.in-Err-NoArea.field-0-is
    c.in-Err-NoArea.ensures.fault

pub returns-in-Ok : goal.returns-in-Ok
returns-in-Ok g c = λ area at.
    let head : AreaHead = record { id = c.area-is_stub.result.0.0; is_stub = c.area-is_stub.result.1 } in
    let same : head ≡ area = Some-same (sym c.area-is_stub.ensures ∙ at) in
    subst (λ (a : AreaHead). IsGraphOf (lsas_in (lists_of c.args.database.now) a) c.in-Ok.graph) same c.in-Ok.ensures.graph
