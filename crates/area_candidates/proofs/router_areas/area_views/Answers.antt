use Rattle.std.proofs.Common.{◌∙◌, List, map, sym, ap, arith}
use Rattle.std.proofs.lemmas.List.{take_all}
use Rattle.lsdb.specs.Lists.{AreaHead, areas_of}
use Rattle.lsdb.specs.Slots.{lists_of}
use Rattle.routing_table.proofs.TableLemmas.{attached_among}
use Rattle.area_candidates.specs.Views.{area_view}
use Rattle.area_candidates.proofs.AttachedViews.{more_views, same_views}
use Rattle.area_candidates.proofs.router_areas.area_views.Goals as goal
use Rattle.area_candidates.proofs.router_areas.area_views.Goals.{then-is_attached+in_ok-of+in_ok-push, else-is_attached}

pub loop-i-preserved : goal.loop-i-preserved
loop-i-preserved g c =
    let db = lists_of c.args.database.now in
    let head : AreaHead = record { id = c.area-is_stub.result.0.0; is_stub = c.area-is_stub.result.1 } in
    elim c.if-is_attached.branch [
      | then-is_attached+in_ok-of+in_ok-push w ↦
          more_views db c.args.router c.loop-i.i head c.area-is_stub.ensures c.loop-i.views.items c.if-is_attached.views.items _ c.loop-i.invariant
          (sym c.is_attached.ensures ∙ w.if-is_attached.true) w.in_ok-of.ensures (ap (λ v. v.items) w.views-is ∙ w.in_ok-push.ensures.items)
      | else-is_attached w ↦
          ap (λ v. v.items) w.views-is
          ∙ same_views db c.args.router c.loop-i.i head c.area-is_stub.ensures c.loop-i.views.items c.loop-i.invariant
          (sym c.is_attached.ensures ∙ w.if-is_attached.false)
    ]

pub returns : goal.returns
returns g c =
    let db = lists_of c.args.database.now in
    c.loop-i.invariant
    ∙ ap (λ (areas : List AreaHead). map (area_view db c.args.router) (attached_among db c.args.router areas))
    (take_all c.loop-i.i (areas_of db) (omega (arith, c.area_count-i-end.ensures, c.loop-i-test.false)))
