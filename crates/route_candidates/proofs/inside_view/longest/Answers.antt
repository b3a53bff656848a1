use Rattle.std.proofs.Common.{◌≡◌, ◌+◌, ◌++◌, ◌∷◌, [], ◌∙◌, List, Some, append_assoc, take, sym, ap}
use Rattle.std.specs.Option.{option_copied}
use Rattle.std.proofs.lemmas.List.{append-nil, take_all, take_more}
use Rattle.best_ways.specs.Values.{RouteValue}
use Rattle.external_routes.specs.Choose.{covers, forward_match}
use Rattle.route_candidates.proofs.Matches.{match_more_no, match_more_yes}
use Rattle.route_candidates.proofs.inside_view.longest.Goals as goal
use Rattle.route_candidates.proofs.inside_view.longest.Goals.{then-covers, else-covers}

pub loop-route-init : goal.loop-route-init
loop-route-init g c = λ before was. was ∙ ap (λ (rs : List RouteValue). forward_match rs c.args.addr) (sym (append-nil before))

pub loop-route-preserved : goal.loop-route-preserved
loop-route-preserved g c = λ before was.
    let routes = c.args.routes.now in
    let i = c.loop-route.route-index in
    let route = c.route-item.result in
    let addr = c.args.addr in
    let earlier = before ++ take i routes in
    let more : before ++ take (i + 1) routes ≡ earlier ++ route ∷ [] =
    ap (λ (rs : List RouteValue). before ++ rs)
    (take_more routes i route c.loop-route-test.true ∙ ap (λ (r : RouteValue). take i routes ++ r ∷ []) (sym c.route-item.is))
    ∙ sym (append_assoc before (take i routes) (route ∷ [])) in
    let covered : covers route.net addr ≡ c.covers.result =
    sym (c.covers.ensures ∙ ap (λ (r : RouteValue). covers r.net addr) c.route.view_is) in
    elim c.if-covers.branch [
      | then-covers w ↦
          ap option_copied w.best-is ∙ ap (λ (r : RouteValue). Some r) w.longer_of.ensures
          ∙ match_more_yes earlier route addr _ (c.loop-route.invariant before was) (covered ∙ w.if-covers.true)
          ∙ ap (λ (rs : List RouteValue). forward_match rs addr) (sym more)
      | else-covers w ↦
          ap option_copied w.best-is
          ∙ match_more_no earlier route addr _ (c.loop-route.invariant before was) (covered ∙ w.if-covers.false)
          ∙ ap (λ (rs : List RouteValue). forward_match rs addr) (sym more)
    ]

pub returns : goal.returns
returns g c = λ before was.
    c.loop-route.invariant before was
    ∙ ap (λ (rs : List RouteValue). forward_match (before ++ rs) c.args.addr) (take_all c.loop-route.route-index c.args.routes.now c.loop-route-test.false)
