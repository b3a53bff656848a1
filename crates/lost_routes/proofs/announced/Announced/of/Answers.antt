use Rattle.std.proofs.Common.{◌∙◌, ◌≤◌, List, ℕ, length, ap, arith}
use Rattle.std.specs.List.{filter_map, flat_map}
use Rattle.std.proofs.lemmas.Grind.{flat_map-append}
use Rattle.std.proofs.lemmas.List.Elements.{filter_map-append}
use Rattle.lsa_codec.specs.Order.{prefix_cmp}
use Rattle.lsa_codec.specs.Prefix.{Net}
use Rattle.lsdb.specs.Lists.{AreaHead, areas_of}
use Rattle.lsdb.specs.Slots.{lists_of}
use Rattle.area_graph.specs.Rising.{rising}
use Rattle.lost_routes.specs.Announced.{announced_by, announced_in, external_prefix, live_networks, summary_prefix}
use Rattle.lost_routes.proofs.AreaNets.{area_more, areas_done}
use Rattle.lost_routes.proofs.GatheredLemmas.{gathers_all, gathers_none}
use Rattle.lost_routes.proofs.announced.Announced.of.Goals as goal

pub loop-i-init : goal.loop-i-init
loop-i-init g c = (gathers_none _, gathers_none _)

pub loop-i-preserved : goal.loop-i-preserved
loop-i-preserved g c =
    let db = lists_of c.args.database.now in
    let head : AreaHead = record { id = c.area-is_stub.result.0.0; is_stub = c.area-is_stub.result.1 } in (
      area_more db (flat_map live_networks) (flat_map-append live_networks) c.loop-i.i head c.area-is_stub.ensures _
          c.lsas-in-loop-i.ensures.lsas _ _ _ c.loop-i.invariant.0
          c.in_ok-add_area.ensures.networks,
      area_more db (filter_map summary_prefix) (filter_map-append summary_prefix) c.loop-i.i head c.area-is_stub.ensures _
          c.lsas-in-loop-i.ensures.lsas _ _ _ c.loop-i.invariant.1
          c.in_ok-add_area.ensures.summaries,
    )

pub returns : goal.returns
returns g c =
    let db = lists_of c.args.database.now in
    let past : length (areas_of db) ≤ c.loop-i.i = omega (arith, c.area_count-i-end.ensures, c.loop-i-test.false) in
    ap (λ (l : List Net). announced_by l c.add_externals.new.nets.keys c.loop-i.summaries.keys)
    (gathers_all _ _ _ c.new-networks.ensures.empty (areas_done db (flat_map live_networks) c.loop-i.i _ _ past c.loop-i.invariant.0))
    ∙ ap (λ (l : List Net). announced_by (announced_in db).networks l c.loop-i.summaries.keys)
    (gathers_all _ _ _ c.new-externals.ensures.empty c.in_ok-add_externals.ensures
    ∙ ap (λ (l : List (List ℕ)). rising prefix_cmp (filter_map external_prefix l)) c.lsas.ensures.lsas)
    ∙ ap (λ (l : List Net). announced_by (announced_in db).networks (announced_in db).externals l)
    (gathers_all _ _ _ c.new-summaries.ensures.empty (areas_done db (filter_map summary_prefix) c.loop-i.i _ _ past c.loop-i.invariant.1))
