use Rattle.std.proofs.Common.{[], ◌∙◌, ap, sym, subst, List}
use Rattle.std.specs.List.{Contains, flat_map}
use Rattle.std.proofs.lemmas.Map.Keys.{Less-from_sorted}
use Rattle.std.proofs.lemmas.Iterator.{items_from_collect}
use Rattle.std.proofs.lemmas.Iterator.Consumers.{YieldsList-from_rest}
use Rattle.std.proofs.lemmas.Result.{IfOk-weaker}
use Rattle.lsa_codec.specs.Order.{router_cmp}
use Rattle.lsa_codec.specs.declared.address.RouterId.{RouterId}
use Rattle.area_graph.specs.Rising.{rising}
use Rattle.area_candidates.specs.Views.{AreaViewValue}
use Rattle.area_candidates.proofs.InsertingLemmas.{Inserts, OfFirst, first_all, first_more, first_none}
use Rattle.first_ends.specs.FirstEnds.{first_ends_in}
use Rattle.first_ends.proofs.EndsOver.{all_ends}
use Rattle.first_ends.proofs.neighbors.first_ends.Goals as goal

pub loop-area-init : goal.loop-area-init
loop-area-init g c =
    let found = λ (view : AreaViewValue) (end : RouterId). Contains (first_ends_in c.args.interface c.args.targets.now view) end in
    subst (λ (l : List RouterId). Inserts (OfFirst found c.areas-area-items.result.now 0) [] l) (sym c.new-found.ensures.empty)
    (first_none found c.areas-area-items.result.now [])

pub loop-area-preserved : goal.loop-area-preserved
loop-area-preserved g c =
    first_more (λ view end. Contains (first_ends_in c.args.interface c.args.targets.now view) end) c.areas-area-items.result.now c.loop-area.area-index
    c.area-item.result [] c.loop-area.found.keys _ c.loop-area-test.true c.area-item.is c.loop-area.invariant c.in_ok-insert_ends.ensures

pub returns : goal.returns
returns g c =
    let targets = c.args.targets.now in
    let ends = first_ends_in c.args.interface targets in
    IfOk-weaker c.collect.result _ _
    (λ v h. h
    ∙ all_ends c.areas-area-items.result.now targets c.args.interface c.loop-area.found.keys
    (λ i j d a b. Less-from_sorted router_cmp c.loop-area.found.keys i j d c.into_iter.ensures.into_iter_gives.4 a b)
    (first_all (λ view end. Contains (ends view) end) c.areas-area-items.result.now c.loop-area.area-index [] c.loop-area.found.keys c.loop-area-test.false
    c.loop-area.invariant)
    ∙ ap (λ (views : List AreaViewValue). rising router_cmp (flat_map ends views)) c.areas-area-items.ensures)
    (items_from_collect c.collect.result c.collect.ensures.ran (YieldsList-from_rest c.loop-area.found.keys c.into_iter.ensures.into_iter_gives.0))
