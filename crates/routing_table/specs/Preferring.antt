-- Routes of one list before those of another (RFC 2328, 11).
use Rattle.std.specs.Prelude.{List, ◌++◌, Option}
use Rattle.std.specs.List.{filter_map}
use Rattle.std.specs.Option.{option_or}
use Rattle.lsa_codec.specs.Prefix.{Net}
use Rattle.area_graph.specs.Rising.{rising}
use Rattle.lsa_codec.specs.Order.{prefix_cmp}
use Rattle.best_ways.specs.Routes.{nets, route_to}
use Rattle.best_ways.specs.Values.{RouteValue}

module _ (first second : List RouteValue) where
  -- the first list's route to a prefix, else the second's
  abbrev pub preferred_route : Net → Option RouteValue
  preferred_route net = option_or (route_to first net) (route_to second net)

  -- to each prefix the preferred route, in order of prefix
  abbrev pub preferring : List RouteValue
  preferring = filter_map preferred_route (rising prefix_cmp (nets (first ++ second)))
