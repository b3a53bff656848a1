-- What is expected of a router's route for a prefix.
use Rattle.std.specs.Prelude.{ℕ, Bool, true, false, ◌&&◌, ◌==◌, nat_le, List, length, Option, None, Some, codes}
use Rattle.std.specs.List.{list_all, list_any}
use Rattle.std.specs.Option.{option_map_or}
use Rattle.lsa_codec.specs.declared.address.RouterId.{RouterId}
use Rattle.study_words.specs.declared.comparison.Comparison.{Comparison}
use Rattle.study_words.specs.declared.comparison.Comparison.TheVariants.{AtMost, Equal, AtLeast}
use Rattle.study_words.specs.declared.route_kind.RouteKind.{RouteKind}
use Rattle.study_words.specs.declared.route_kind.RouteKind.TheVariants.{Intra, Inter, External1, External2, Own}
use Rattle.study_script.specs.declared.condition.Bound.{Bound}
use Rattle.study_text.specs.Shown.{Called}
use Rattle.route_lines.specs.declared.own_source.OwnSource.{OwnSource}
use Rattle.route_lines.specs.declared.route_way.WayTarget.{WayTarget}
use Rattle.route_lines.specs.declared.route_way.WayTarget.TheVariants.{Via, Direct, Exit}
use Rattle.route_lines.specs.RouteLines.{RouteLineValue, RouteWayValue}
use Rattle.route_lines.specs.RouteTexts.{route_text}

-- ---- numbers

abbrev pub compares : Comparison → ℕ → ℕ → Bool
compares AtMost found number = nat_le found number
compares Equal found number = found == number
compares AtLeast found number = nat_le number found

abbrev pub meets : Bound → ℕ → Bool
meets bound found = compares bound.comparison found bound.number

-- ---- a route

abbrev pub is_kind : RouteKind → RouteKind → Bool
is_kind Intra Intra = true
is_kind Inter Inter = true
is_kind External1 External1 = true
is_kind External2 External2 = true
is_kind Own Own = true
is_kind wanted kind = false

-- it is of this kind, if one is given
abbrev pub has_kind : Option RouteKind → RouteLineValue → Bool
has_kind wanted route = option_map_or (λ kind. is_kind kind route.source.kind) wanted true

-- a way leads to this neighbor
abbrev pub leads_to : RouterId → WayTarget → Bool
leads_to neighbor (Via router) = router.0 == neighbor.0
leads_to neighbor Direct = false
leads_to neighbor (Exit address) = false

-- the ways lead to each of these neighbors, and each way to one of them
abbrev pub leads_to_each : List RouterId → List RouteWayValue → Bool
leads_to_each neighbors ways =
    list_all (λ neighbor. list_any (λ way. leads_to neighbor way.target) ways) neighbors
    && list_all (λ way. list_any (λ neighbor. leads_to neighbor way.target) neighbors) ways

abbrev pub has_neighbors : Option (List RouterId) → RouteLineValue → Bool
has_neighbors wanted route = option_map_or (λ neighbors. leads_to_each neighbors route.ways) wanted true

-- the cost is as it has to be: an external prefix of the router itself has none
abbrev pub meets_by : Option OwnSource → Bound → ℕ → Bool
meets_by None bound cost = meets bound cost
meets_by (Some own) bound cost = false

abbrev pub has_cost : Option Bound → RouteLineValue → Bool
has_cost wanted route = option_map_or (λ bound. meets_by route.source.own bound route.source.cost) wanted true

-- there is a route, of this kind, exactly to these neighbors, of such a cost
abbrev pub has_route : Option RouteKind → Option (List RouterId) → Option Bound → Option RouteLineValue → Bool
has_route kind neighbors cost route =
    option_map_or (λ found. has_kind kind found && (has_neighbors neighbors found && has_cost cost found)) route false

-- ---- ways

-- how many ways a route has: an external prefix of the router itself counts as one
abbrev pub hops_by : Option OwnSource → RouteLineValue → ℕ
hops_by None route = length route.ways
hops_by (Some own) route = 1

abbrev pub hops_of : Option RouteLineValue → ℕ
hops_of route = option_map_or (λ found. hops_by found.source.own found) route 0

-- ---- what was found

abbrev pub found_text : Called → Option RouteLineValue → List ℕ
found_text called None = codes "no route"
found_text called (Some route) = route_text called route
