-- The texts of routes.
use Rattle.std.specs.Prelude.{ℕ, ◌==◌, if◌then◌else◌, List, [], ◌++◌, map, option_map, Option, None, Some, codes, decimal}
use Rattle.lsa_codec.specs.declared.address.Addr.{Addr}
use Rattle.lsa_codec.specs.declared.address.AreaId.{AreaId}
use Rattle.lsa_codec.specs.Spelling.{address_text, prefix_text}
use Rattle.study_words.specs.RouteKinds.{route_kind_text}
use Rattle.study_words.specs.declared.route_kind.RouteKind.{RouteKind}
use Rattle.study_words.specs.declared.route_kind.RouteKind.TheVariants.{Intra, Inter, External1, External2, Own}
use Rattle.study_text.specs.Lists.{after_word, joined, lines_of}
use Rattle.study_text.specs.Shown.{Called, shown}
use Rattle.route_lines.specs.declared.own_source.OwnSource.{OwnSource}
use Rattle.route_lines.specs.declared.route_source.RouteSource.{RouteSource}
use Rattle.route_lines.specs.declared.route_way.WayTarget.{WayTarget}
use Rattle.route_lines.specs.declared.route_way.WayTarget.TheVariants.{Via, Direct, Exit}
use Rattle.route_lines.specs.RouteLines.{RouteLineValue, RouteWayValue, external_kind}

-- an address after a word, if there is one
abbrev pub address_after : List ℕ → Option Addr → List ℕ
address_after word address = after_word word (option_map (λ a. address_text a.0) address)

abbrev pub out_text : Option Addr → List ℕ
out_text out = address_after (codes " out ") out

-- ---- ways

abbrev pub addresses_text : List Addr → List ℕ
addresses_text addresses = joined (codes "/") (map (λ address. address_text address.0) addresses)

-- where a way leads, to a neighbor with these addresses
abbrev pub target_text : Called → List Addr → WayTarget → List ℕ
target_text called addresses (Via router) = codes "via " ++ shown called router ++ codes " " ++ addresses_text addresses
target_text called addresses Direct = codes "direct"
target_text called addresses (Exit address) = codes "exit" ++ address_after (codes " ") address

abbrev pub way_text : Called → RouteWayValue → List ℕ
way_text called way = target_text called way.addresses way.target ++ out_text way.out

abbrev pub ways_text : Called → List RouteWayValue → List ℕ
ways_text called ways = joined (codes ", ") (map (way_text called) ways)

-- ---- routes

-- the metric of type 2, of a route that has one
abbrev pub metric_text : RouteKind → ℕ → List ℕ
metric_text Intra metric = []
metric_text Inter metric = []
metric_text External1 metric = []
metric_text External2 metric = codes " metric " ++ decimal metric
metric_text Own metric = []

-- kind, cost and metric, by the router's own AS-external-LSA, if it is one
abbrev pub source_by : RouteSource → Option OwnSource → List ℕ
source_by source None = route_kind_text source.kind ++ codes " cost " ++ decimal source.cost ++ metric_text source.kind source.metric
source_by source (Some own) = codes "own " ++ route_kind_text (external_kind own.is_type2) ++ codes " metric " ++ decimal own.metric

abbrev pub source_text : RouteSource → List ℕ
source_text source = source_by source source.own

-- the forwarding address, where it is not 0.0.0.0
abbrev pub forward_text : Addr → List ℕ
forward_text forward = if forward.0 == 0 then [] else codes " forward " ++ address_text forward.0

-- the area, if there is one
abbrev pub area_text : Option AreaId → List ℕ
area_text area = after_word (codes " area ") (option_map (λ a. address_text a.0) area)

-- what follows the costs
abbrev pub rest_by : Called → RouteLineValue → Option OwnSource → List ℕ
rest_by called route None = area_text route.area ++ codes " " ++ ways_text called route.ways
rest_by called route (Some own) = forward_text own.forward

-- a route without its prefix
abbrev pub route_text : Called → RouteLineValue → List ℕ
route_text called route = source_text route.source ++ rest_by called route route.source.own

-- a route with its prefix
abbrev pub route_line : Called → RouteLineValue → List ℕ
route_line called route = prefix_text route.net ++ codes " " ++ route_text called route

-- the lines of `routes`
abbrev pub routes_text : Called → List RouteLineValue → List ℕ
routes_text called routes = lines_of (route_line called) routes
