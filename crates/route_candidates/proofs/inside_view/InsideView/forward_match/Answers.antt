use Rattle.std.proofs.Common.{◌≡◌, ◌<◌, ◌^◌, ◌++◌, List, [], refl, sym, ap, subst, ◌∙◌}
use Rattle.std.proofs.lemmas.List.Elements.{All-append}
use Rattle.best_ways.specs.Values.{RoutesBelow, RouteValue}
use Rattle.external_routes.specs.Choose.{covers, forward_match, longer}
use Rattle.route_candidates.specs.RouterViews.{InsideValue}
use Rattle.route_candidates.proofs.Least.{first_has}
use Rattle.route_candidates.proofs.inside_view.InsideView.forward_match.Goals as goal

pub returns-clause-route : goal.returns-clause-route
returns-clause-route g c =
    let between = c.as_slice-2.result.now in
    let within : c.as_slice.result.now ≡ c.self.inside.intra =
    c.as_slice.ensures.routes ∙ c.as_routes.ensures.routes ∙ ap (λ v. v.intra) c.self-inside.view_is in
    let outside : between ≡ c.self.inside.inter.routes =
    c.as_slice-2.ensures.routes ∙ c.as_routes-2.ensures.routes ∙ ap (λ v. v.inter.routes) c.self-inside.view_is in
    c.longest.ensures c.as_slice.result.now (c.longest-best.ensures [] refl)
    ∙ ap (λ (rs : List RouteValue). forward_match (rs ++ between) c.args.addr) within
    ∙ ap (λ (rs : List RouteValue). forward_match (c.self.inside.intra ++ rs) c.args.addr) outside
    ∙ ap (λ (v : InsideValue). forward_match v.routes c.args.addr) c.self.view_is

pub returns-clause-small : goal.returns-clause-small
returns-clause-small g c =
    let within = c.as_slice.result.now in
    let between = c.as_slice-2.result.now in
    first_has longer (λ r. r.cost < 2 ^ 34) (λ r. covers r.net c.args.addr) (within ++ between) c.longest.result
    (All-append (λ (r : RouteValue). r.cost < 2 ^ 34) within between
    (subst (RoutesBelow (2 ^ 34)) (sym c.as_slice.ensures.routes) c.as_routes.ensures.small)
    (subst (RoutesBelow (2 ^ 34)) (sym c.as_slice-2.ensures.routes) c.as_routes-2.ensures.small))
    (c.longest.ensures within (c.longest-best.ensures [] refl))
