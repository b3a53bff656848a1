-- What a router uses for a prefix: a route of its table, or an external prefix of its own.
use Rattle.std.specs.Prelude.{ℕ, Bool, ◌&&◌, ◌||◌, ◌++◌, not, false, true, if◌then◌else◌, List, [], Option, None, Some, slice_get}
use Rattle.std.specs.Option.{option_map, option_map_or}
use Rattle.lsa_codec.specs.Prefix.{Net}
use Rattle.lsa_codec.specs.declared.address.AreaId.{AreaId}
use Rattle.next_hops.specs.declared.hop.Hop.{Hop}
use Rattle.best_ways.specs.Routes.{has_route, nets, route_to}
use Rattle.best_ways.specs.Values.{RouteValue}
use Rattle.best_ways.specs.declared.rank.PathType.{PathType}
use Rattle.best_ways.specs.declared.rank.PathType.TheVariants as path
use Rattle.study_words.specs.declared.route_kind.RouteKind.{RouteKind}
use Rattle.study_words.specs.declared.route_kind.RouteKind.TheVariants as kind
use Rattle.forwarding.specs.Matches.{RouterValue, has_net, is_own_network}

-- ---- an entry

pub record EntryValue : Type 0 where
  pub kind : RouteKind
  pub metric : ℕ
  pub cost : ℕ
  pub area : Option AreaId
  pub hops : List Hop

-- the kind of a route by the type of its paths
abbrev pub kind_of : PathType → RouteKind
kind_of path.Intra = kind.Intra
kind_of path.Inter = kind.Inter
kind_of path.Ext1 = kind.External1
kind_of path.Ext2 = kind.External2

-- the metric of type 2: other routes have none
abbrev pub metric_by : PathType → ℕ → ℕ
metric_by path.Intra metric = 0
metric_by path.Inter metric = 0
metric_by path.Ext1 metric = 0
metric_by path.Ext2 metric = metric

-- the entry for an external prefix of the router's own: all such entries are the same
abbrev pub own_external : EntryValue
own_external = record { kind = kind.Own; metric = 0; cost = 0; area = None; hops = [] }

abbrev pub is_own : RouteKind → Bool
is_own kind.Intra = false
is_own kind.Inter = false
is_own kind.External1 = false
is_own kind.External2 = false
is_own kind.Own = true

abbrev pub is_own_external : EntryValue → Bool
is_own_external entry = is_own entry.kind

-- the entry by a route; its area is the least of those that the paths lead through
abbrev pub route_entry : RouteValue → EntryValue
route_entry r = record {
  kind = kind_of r.kind;
  metric = metric_by r.kind r.cost2;
  cost = r.cost;
  area = slice_get r.areas 0;
  hops = r.hops;
}

-- ---- the entries of a router

-- a network of the router itself comes first, then an external prefix of its own, then other routes
abbrev pub entry_by : Bool → Option RouteValue → Option EntryValue
entry_by is_own route = if is_own && not (option_map_or is_own_network route false) then Some own_external else option_map route_entry route

-- the entry for a prefix, if there is one
abbrev pub entry_for : RouterValue → Net → Option EntryValue
entry_for r net = entry_by (has_net r.own net) (route_to r.routes net)

-- whether a prefix has one
abbrev pub has_entry : RouterValue → Net → Bool
has_entry r net = has_route r.routes net || has_net r.own net

-- the prefixes that have one
abbrev pub nets_of : RouterValue → List Net
nets_of r = nets r.routes ++ r.own
