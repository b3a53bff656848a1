-- The JSON of routing tables (RFC 2328, 11), as `table` and `tables` answer it.
use Rattle.std.specs.Prelude.{[], ◌∷◌, slice_get, codes}
use Rattle.json.specs.Json.{Json, string}
use Rattle.best_ways.specs.declared.rank.PathType.{PathType}
use Rattle.best_ways.specs.Values.{RouteValue}
use Rattle.next_hops.specs.declared.hop.Hop.{Hop}
use Rattle.next_hops.specs.Hop.{hop_text}
use Rattle.routing_table.specs.Tables.{TableValue}
use Rattle.table_report.specs.Texts.{kind_text}
use Rattle.study_json.specs.Fields.{Fields, object_of}
use Rattle.study_json.specs.Leaves.{area_json, array_json, number_json, option_json, prefix_json, router_json}

abbrev pub hop_json : Hop → Json
hop_json hop = string (hop_text hop)

abbrev pub path_json : PathType → Json
path_json path = string (kind_text path)

-- the lowest area of a route, and its next hops
abbrev pub way_fields : RouteValue → Fields
way_fields r = (codes "area", option_json area_json (slice_get r.areas 0)) ∷ (codes "hops", array_json hop_json r.hops) ∷ []

abbrev pub table_route_json : RouteValue → Json
table_route_json r =
    object_of
    ((codes "prefix", prefix_json r.net) ∷ (codes "kind", path_json r.kind) ∷ (codes "cost", number_json r.cost)
    ∷ (codes "cost2", number_json r.cost2) ∷ way_fields r)

abbrev pub table_json : TableValue → Json
table_json table =
    object_of ((codes "router", router_json table.router) ∷ (codes "routes", array_json table_route_json table.routes) ∷ [])
