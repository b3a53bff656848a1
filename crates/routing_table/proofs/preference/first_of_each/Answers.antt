use Rattle.std.proofs.Common.{◌≡◌, rules, subst, sym, ap, ◌∙◌}
use Rattle.std.specs.List.{dedup}
use Rattle.std.proofs.lemmas.Fn.{always_returns_same, dedup_same}
use Rattle.best_ways.specs.Routes.{AreSortedRoutes, route_to}
use Rattle.best_ways.specs.Values.{RouteValue}
use Rattle.routing_table.proofs.Firsts.{route_firsts, same_net, sorted_firsts}
use Rattle.routing_table.proofs.preference.first_of_each.Goals as goal

module _ (g : Rattle.routing_table.proofs.preference.first_of_each.Given.Over) (c : goal.After-dedup_by_key g) where
  kept : c.dedup_by_key.new.self.items ≡ dedup same_net c.sort_by_key.new.self.items
  kept = dedup_same _ same_net _ (λ x y b f' x' y' k. search rules) _ _ c.dedup_by_key.ensures.filtered

pub returns-clause-sorted : goal.returns-clause-sorted
returns-clause-sorted g c =
    subst AreSortedRoutes (sym (kept g c)) (sorted_firsts c.sort_by_key.new.self.items
    (c.in_ok-sort_by_key.ensures.sorted (λ (r : RouteValue). r.net) (always_returns_same _ _ _ (λ a r f' called. search rules))))

pub returns-clause-routes : goal.returns-clause-routes
returns-clause-routes g c = λ net.
    ap (λ l. route_to l net) (kept g c)
    ∙ route_firsts net c.args.routes.items c.sort_by_key.new.self.items
    (c.sort_by_key.ensures.stable (λ (r : RouteValue). r.net) (always_returns_same _ _ _ (λ a r f' called. search rules)))
