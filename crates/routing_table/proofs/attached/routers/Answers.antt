use Rattle.std.proofs.Common.{◌∙◌, ◌++◌, List, ℕ, take, sym, ap, arith}
use Rattle.std.specs.List.{filter_map}
use Rattle.std.proofs.lemmas.Iterator.{items_from_collect}
use Rattle.std.proofs.lemmas.Iterator.Consumers.{YieldsList-from_rest}
use Rattle.std.proofs.lemmas.List.Elements.{filter_map-append}
use Rattle.std.proofs.lemmas.Result.{IfOk-weaker}
use Rattle.lsdb.specs.Lists.{AreaHead, areas_of}
use Rattle.lsdb.specs.Slots.{lists_of}
use Rattle.area_graph.specs.Rising.{rising}
use Rattle.lsa_codec.specs.Order.{router_cmp}
use Rattle.routing_table.specs.AreaLsas.{lsas_in}
use Rattle.routing_table.specs.Routers.{live_router}
use Rattle.routing_table.proofs.AreaLsaLemmas.{lsas_all, lsas_among, lsas_more}
use Rattle.routing_table.proofs.attached.routers.Goals as goal

pub loop-i-preserved : goal.loop-i-preserved
loop-i-preserved g c =
    let db = lists_of c.args.database.now in
    let head : AreaHead = record { id = c.area-is_stub.result.0.0; is_stub = c.area-is_stub.result.1 } in
    let so_far : List (List ℕ) = lsas_among db (take c.loop-i.i (areas_of db)) in
    c.in_ok-add_routers.ensures (filter_map live_router so_far) c.loop-i.invariant
    ∙ ap (λ (lsas : List (List ℕ)). rising router_cmp (filter_map live_router so_far ++ filter_map live_router lsas)) c.lsas.ensures.lsas
    ∙ ap (rising router_cmp)
    (sym (ap (filter_map live_router) (lsas_more db c.loop-i.i head c.area-is_stub.ensures) ∙ filter_map-append live_router so_far (lsas_in db head)))

pub returns : goal.returns
returns g c =
    let db = lists_of c.args.database.now in
    IfOk-weaker c.collect.result _ _
    (λ v h. h ∙ c.loop-i.invariant
    ∙ ap (λ (lsas : List (List ℕ)). rising router_cmp (filter_map live_router lsas))
    (lsas_all db c.loop-i.i (omega (arith, c.area_count-i-end.ensures, c.loop-i-test.false))))
    (items_from_collect c.collect.result c.collect.ensures.ran (YieldsList-from_rest c.loop-i.found.keys c.into_iter.ensures.into_iter_gives.0))
