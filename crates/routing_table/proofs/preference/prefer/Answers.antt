use Rattle.std.proofs.Common.{◌≡◌, ◌^◌, List, [], length, ◌∙◌, ap, subst, sym}
use Rattle.std.proofs.lemmas.Bool.{eqb-true}
use Rattle.best_ways.specs.Routes.{AreSortedRoutes}
use Rattle.best_ways.specs.Values.{RouteValue, RoutesBelow}
use Rattle.routing_table.specs.Preferring.{preferring}
use Rattle.routing_table.proofs.Preferred.{firsts_are, firsts_small, nothing_in, preferring_alone}
use Rattle.routing_table.proofs.preference.prefer.Goals as goal

pub returns-then-is_empty-clause-routes : goal.returns-then-is_empty-clause-routes
returns-then-is_empty-clause-routes g c =
    let none : c.args.second ≡ [] = nothing_in c.args.second
    (sym (ap (λ (l : List RouteValue). length l) c.as_slice.ensures.routes) ∙ eqb-true (length c.as_slice.result.now) 0 (sym c.is_empty.ensures ∙ c.if-is_empty.true)) in
    c.from_sorted.ensures ∙ c.into_vec.ensures.routes
    ∙ sym (preferring_alone c.args.first c.args.second (subst (λ (l : List RouteValue). AreSortedRoutes l) c.into_vec.ensures.routes c.into_vec.ensures.sorted) none)

pub returns-clause-routes : goal.returns-clause-routes
returns-clause-routes g c =
    c.from_sorted-2.ensures
    ∙ firsts_are c.into_vec-routes.result.items c.into_vec-2.result.items c.append.new.self.items c.in_ok-first_of_each.field-0.items
    c.in_ok-first_of_each.ensures.sorted c.in_ok-append.ensures.items c.in_ok-first_of_each.ensures.routes
    ∙ ap (λ (l : List RouteValue). preferring l c.into_vec-2.result.items) c.into_vec-routes.ensures.routes
    ∙ ap (λ (l : List RouteValue). preferring c.args.first l) c.into_vec-2.ensures.routes

pub returns-clause-small : goal.returns-clause-small
returns-clause-small g c = λ first second.
    subst (RoutesBelow (2 ^ 34)) (sym c.from_sorted-2.ensures)
    (firsts_small c.into_vec-routes.result.items c.into_vec-2.result.items c.append.new.self.items c.in_ok-first_of_each.field-0.items
    c.in_ok-first_of_each.ensures.sorted c.in_ok-append.ensures.items c.in_ok-first_of_each.ensures.routes
    (subst (RoutesBelow (2 ^ 34)) (sym c.into_vec-routes.ensures.routes) first) (subst (RoutesBelow (2 ^ 34)) (sym c.into_vec-2.ensures.routes) second))
