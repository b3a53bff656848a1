-- How two routing tables of a router differ, route by route, as `compare` answers it.
use Rattle.std.specs.Prelude.{ℕ, Bool, not, List, [], ◌∷◌, ◌++◌, filter, map, Option, None, Some, codes}
use Rattle.std.specs.Str.{bytes_eq}
use Rattle.json.specs.Json.{Json, string}
use Rattle.lsa_codec.specs.Order.{prefix_cmp}
use Rattle.lsa_codec.specs.Prefix.{Net}
use Rattle.lsa_codec.specs.declared.address.RouterId.{RouterId}
use Rattle.area_graph.specs.Rising.{rising}
use Rattle.best_ways.specs.Routes.{nets, route_to}
use Rattle.best_ways.specs.Values.{RouteValue}
use Rattle.study_json.specs.Fields.{Fields, object_of}
use Rattle.study_json.specs.JsonText.{json_text}
use Rattle.study_json.specs.Leaves.{array_json, option_json, router_json}
use Rattle.study_json.specs.Tables.{table_route_json}

-- the routes to a prefix in two tables
pub record RouteChangeValue : Type 0 where
  pub was : Option RouteValue
  pub now : Option RouteValue

-- ---- what is answered

-- the sign: `+` where only the present table has a route, `-` where only the earlier one has one, and else `~`
abbrev pub sign_of : Option RouteValue → Option RouteValue → List ℕ
sign_of None now = codes "+"
sign_of (Some was) None = codes "-"
sign_of (Some was) (Some now) = codes "~"

-- a route, if there is one
abbrev pub any_route_json : Option RouteValue → Json
any_route_json route = option_json table_route_json route

abbrev pub route_change_json : RouteChangeValue → Json
route_change_json change =
    object_of
    ((codes "sign", string (sign_of change.was change.now)) ∷ (codes "now", any_route_json change.now)
    ∷ (codes "was", any_route_json change.was) ∷ [])

abbrev pub compare_reply : RouterId → List RouteChangeValue → Fields
compare_reply router changes = (codes "router", router_json router) ∷ (codes "changes", array_json route_change_json changes) ∷ []

-- ---- where tables differ

-- the text of a route, if there is one
abbrev pub any_route_text : Option RouteValue → List ℕ
any_route_text route = json_text (any_route_json route)

-- what is answered of both routes differs
abbrev pub is_change : RouteChangeValue → Bool
is_change change = not (bytes_eq (any_route_text change.was) (any_route_text change.now))

module _ (before now : List RouteValue) where
  abbrev pub routes_at : Net → RouteChangeValue
  routes_at net = record { was = route_to before net; now = route_to now net }

  -- the prefixes of either table at which they differ, in order
  abbrev pub changes_among : List Net → List RouteChangeValue
  changes_among prefixes = filter is_change (map routes_at prefixes)

  abbrev pub route_changes : List RouteChangeValue
  route_changes = changes_among (rising prefix_cmp (nets before ++ nets now))
