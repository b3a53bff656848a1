-- The JSON of routes, as `routes` answers it.
use Rattle.std.specs.Prelude.{ℕ, ◌==◌, if◌then◌else◌, List, [], ◌∷◌, Option, None, Some, codes}
use Rattle.json.specs.Json.{Json, string}
use Rattle.lsa_codec.specs.declared.address.Addr.{Addr}
use Rattle.study_words.specs.declared.route_kind.RouteKind.{RouteKind}
use Rattle.study_words.specs.declared.route_kind.RouteKind.TheVariants.{Intra, Inter, External1, External2, Own}
use Rattle.route_lines.specs.declared.own_source.OwnSource.{OwnSource}
use Rattle.route_lines.specs.declared.route_way.WayTarget.{WayTarget}
use Rattle.route_lines.specs.declared.route_way.WayTarget.TheVariants.{Via, Direct, Exit}
use Rattle.route_lines.specs.RouteLines.{RouteLineValue, RouteWayValue, external_kind}
use Rattle.study_json.specs.Fields.{Fields, object_of}
use Rattle.study_json.specs.Leaves.{address_json, area_json, array_json, kind_json, number_json, option_json, prefix_json, router_json}

-- ---- ways

-- what a way is besides: its neighbor with the addresses of the neighbor's interface, or the address outside
abbrev pub target_fields : List Addr → Option Addr → WayTarget → Fields
target_fields addresses out (Via router) =
    (codes "kind", string (codes "via")) ∷ (codes "out", option_json address_json out) ∷ (codes "router", router_json router)
    ∷ (codes "addresses", array_json address_json addresses) ∷ []
target_fields addresses out Direct = (codes "kind", string (codes "direct")) ∷ (codes "out", option_json address_json out) ∷ []
target_fields addresses out (Exit address) =
    (codes "kind", string (codes "exit")) ∷ (codes "out", option_json address_json out)
    ∷ (codes "address", option_json address_json address) ∷ []

abbrev pub way_json : RouteWayValue → Json
way_json way = object_of (target_fields way.addresses way.out way.target)

-- ---- routes

-- the metric of type 2, of a route that has one
abbrev pub metric_of : RouteKind → ℕ → Option ℕ
metric_of Intra metric = None
metric_of Inter metric = None
metric_of External1 metric = None
metric_of External2 metric = Some metric
metric_of Own metric = None

-- a forwarding address, where it is not 0.0.0.0 (RFC 2328, A.4.5)
abbrev pub forward_of : Addr → Option Addr
forward_of forward = if forward.0 == 0 then None else Some forward

-- what stands after the prefix, by the router's own AS-external-LSA, if it is one
abbrev pub route_rest : RouteLineValue → Option OwnSource → Fields
route_rest route None =
    (codes "kind", kind_json route.source.kind) ∷ (codes "cost", number_json route.source.cost)
    ∷ (codes "metric", option_json number_json (metric_of route.source.kind route.source.metric))
    ∷ (codes "area", option_json area_json route.area) ∷ (codes "ways", array_json way_json route.ways) ∷ []
route_rest route (Some own) =
    (codes "kind", string (codes "own")) ∷ (codes "external", kind_json (external_kind own.is_type2))
    ∷ (codes "metric", number_json own.metric) ∷ (codes "forward", option_json address_json (forward_of own.forward)) ∷ []

abbrev pub route_json : RouteLineValue → Json
route_json route = object_of ((codes "prefix", prefix_json route.net) ∷ route_rest route route.source.own)
