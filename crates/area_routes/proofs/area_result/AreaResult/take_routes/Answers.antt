use Rattle.std.proofs.Common.{List, map, sym, ap, subst, ◌∙◌}
use Rattle.std.specs.List.{All}
use Rattle.next_hops.specs.Hop.{IsSortedHops}
use Rattle.area_routes.specs.Intra.{intra_route}
use Rattle.area_routes.specs.Values.{AreaResultValue}
use Rattle.best_ways.specs.Values.{RouteValue}
use Rattle.area_routes.specs.steps.OneArea.{IsResultBy}
use Rattle.area_routes.proofs.OneArea.{hops_by_offers, nothing_by, routes_by_offers}
use Rattle.area_routes.proofs.area_result.AreaResult.take_routes.Goals as goal

pub invariant_of-self : goal.invariant_of-self
invariant_of-self g c =
    subst (λ (rs : List RouteValue). IsResultBy c.self.inside.area rs c.self.inside.entries.items)
    (sym (ap (λ v. v.items) c.replace.ensures.after ∙ c.new.ensures.items))
    (nothing_by c.self.inside.area c.self.inside.entries.items c.self.invariant.below.entries)

pub returns-clause-routes : goal.returns-clause-routes
returns-clause-routes g c =
    ap (λ v. v.items) c.replace.ensures.value ∙ routes_by_offers c.self.inside.area c.self.inside.routes.items c.self.invariant.intra
    ∙ ap (λ (r : AreaResultValue). map (intra_route r.area) r.offers) c.self.view_is

pub returns-clause-hops : goal.returns-clause-hops
returns-clause-hops g c =
    subst (λ (r : AreaResultValue). All (λ o. IsSortedHops o.hops) r.offers) c.self.view_is
    (hops_by_offers c.self.inside.area c.self.inside.routes.items c.self.invariant.intra)
