use Rattle.std.proofs.Common.{◌≡◌, ◌++◌, List, take}
use Rattle.std.specs.Option.{option_copied}
use Rattle.best_ways.specs.Values.{RouteValue}
use Rattle.external_routes.specs.Choose.{forward_match}
use Rattle.route_candidates.proofs.inside_view.longest.Given as goal

-- the match among the routes so far
abbrev pub invariant-loop-route : goal.invariant-loop-route
invariant-loop-route g l = (before : List RouteValue) → option_copied l.initial.best ≡ forward_match before l.addr
    → option_copied l.best ≡ forward_match (before ++ take l.route-index l.routes) l.addr
