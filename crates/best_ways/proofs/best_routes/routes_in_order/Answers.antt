use Rattle.std.proofs.Common.{◌≡◌, [], ◌∷◌, ◌++◌, List, Some, drop, map, sym, ap, ◌∙◌, append_assoc}
use Rattle.std.proofs.lemmas.Bool.{eqb-true}
use Rattle.std.proofs.lemmas.List.{append-nil, nil_from_length}
use Rattle.lsa_codec.specs.Order.{prefix_cmp}
use Rattle.lsa_codec.specs.Prefix.{Net}
use Rattle.best_ways.specs.Best.{way_of, ways_of}
use Rattle.best_ways.specs.Candidate.{Candidate}
use Rattle.best_ways.specs.Routes.{route_through}
use Rattle.best_ways.specs.Values.{RouteValue, WayValue}
use Rattle.best_ways.specs.steps.Merge.{fresh}
use Rattle.best_ways.proofs.Fronts.{no_more}
use Rattle.best_ways.proofs.Merging.{way_push}
use Rattle.best_ways.proofs.best_routes.routes_in_order.Goals as goal

pub loop-place-init : goal.loop-place-init
loop-place-init g c =
    ap (λ (l : List RouteValue). l ++ map (route_through c.args.area) (ways_of prefix_cmp c.args.candidates.now)) (sym c.in_ok-routes.ensures.items)

pub loop-place-preserved-in_ok-push : goal.loop-place-preserved-in_ok-push
loop-place-preserved-in_ok-push g c =
    let through = route_through c.args.area in
    let routes = c.loop-place.routes.items in
    let first = c.next_alike-end.result.0.now in
    let left = map through (ways_of prefix_cmp (drop c.next_alike-end.result.2 c.args.candidates.now)) in
    let alone : c.next_alike-end.result.1.now ≡ [] = nil_from_length _ (eqb-true _ _ (sym c.is_empty.ensures ∙ c.if-is_empty.true)) in
    let way : Some (fresh first) ≡ way_of (first ∷ c.next_alike-end.result.1.now) =
    sym (way_push [] first) ∙ ap (λ (l : List (Candidate Net)). way_of (first ∷ l)) (sym alone) in
    c.loop-place.invariant
    ∙ ap (λ (l : List (Net × WayValue)). routes ++ map through l) (c.next_alike-end.ensures.ways (fresh first) way)
    ∙ ap (λ (r : RouteValue). routes ++ r ∷ left) (sym c.in_ok-route.ensures)
    ∙ sym (append_assoc routes (c.in_ok-route.route ∷ []) left) ∙ ap (λ (l : List RouteValue). l ++ left) (sym c.in_ok-push.ensures.items)

pub loop-place-preserved : goal.loop-place-preserved
loop-place-preserved g c =
    let through = route_through c.args.area in
    let routes = c.loop-place.routes.items in
    let first = c.next_alike-end.result.0.now in
    let left = map through (ways_of prefix_cmp (drop c.next_alike-end.result.2 c.args.candidates.now)) in
    let best = c.in_ok-push_best_route.ensures in
    c.loop-place.invariant
    ∙ ap (λ (l : List (Net × WayValue)). routes ++ map through l) (c.next_alike-end.ensures.ways best.0 best.1)
    ∙ sym (append_assoc routes (through (first.key, best.0) ∷ []) left) ∙ ap (λ (l : List RouteValue). l ++ left) (sym best.2)

pub returns : goal.returns
returns g c =
    let through = route_through c.args.area in
    let routes = c.loop-place.routes.items in
    sym (c.loop-place.invariant
    ∙ ap (λ (l : List (Net × WayValue)). routes ++ map through l) (no_more prefix_cmp c.args.candidates.now c.loop-place.place c.loop-place-test.false)
    ∙ append-nil routes)
