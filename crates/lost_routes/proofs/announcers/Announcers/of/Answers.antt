use Rattle.std.proofs.Common.{◌≤◌, ◌∙◌, ◌++◌, List, ℕ, length, ap, arith}
use Rattle.std.specs.Prelude.{flat_map}
use Rattle.lsdb.specs.Lists.{AreaHead, areas_of}
use Rattle.lsdb.specs.Slots.{lists_of}
use Rattle.routing_table.specs.AreaLsas.{area_lsas}
use Rattle.routing_table.proofs.AreaLsaLemmas.{lsas_all}
use Rattle.lost_routes.specs.declared.pairs.RouterPrefix.{RouterPrefix}
use Rattle.lost_routes.specs.Announcers.{by_area_lsa, by_external}
use Rattle.lost_routes.proofs.Announcing.{area_added}
use Rattle.lost_routes.proofs.announcers.Announcers.of.Goals as goal

pub loop-i-preserved : goal.loop-i-preserved
loop-i-preserved g c =
    let db = lists_of c.args.database.now in
    let head : AreaHead = record { id = c.area-is_stub.result.0.0; is_stub = c.area-is_stub.result.1 } in
    area_added (by_area_lsa c.args.baseline.now) db c.loop-i.i head c.area-is_stub.ensures _ c.lsas.ensures.lsas c.loop-i.pairs.items _
    c.loop-i.invariant c.in_ok-push_area.ensures

pub returns : goal.returns
returns g c =
    let db = lists_of c.args.database.now in
    let by = by_area_lsa c.args.baseline.now in
    let past : length (areas_of db) ≤ c.loop-i.i = omega (arith, c.area_count-i-end.ensures, c.loop-i-test.false) in
    c.in_ok-push_externals.ensures
    ∙ ap (λ (l : List RouterPrefix). l ++ flat_map by_external c.lsas-2.result) (c.loop-i.invariant ∙ ap (flat_map by) (lsas_all db c.loop-i.i past))
    ∙ ap (λ (l : List (List ℕ)). flat_map by (area_lsas db) ++ flat_map by_external l) c.lsas-2.ensures.lsas
