-- What a router uses for prefixes and addresses, as studies show it.
use Rattle.std.specs.Prelude.{if◌then◌else◌, List, [], map, Option, None, Some}
use Rattle.std.specs.List.{cons_option, filter_map}
use Rattle.std.specs.Option.{option_map}
use Rattle.lsa_codec.specs.Order.{prefix_cmp}
use Rattle.lsa_codec.specs.Prefix.{Net}
use Rattle.lsa_codec.specs.declared.address.Addr.{Addr}
use Rattle.lsa_codec.specs.declared.address.RouterId.{RouterId}
use Rattle.lsdb.specs.Lists.{Lists}
use Rattle.area_graph.specs.Rising.{rising}
use Rattle.forwarding.specs.Matches.{MatchValue, RouterValue, entry_for as match_for, match_of, router_in}
use Rattle.router_entries.specs.Entries.{EntryValue, entry_for, is_own_external, nets_of}
use Rattle.router_entries.specs.OwnExternals.{own_external}
use Rattle.router_entries.specs.declared.own_external.OwnExternal.{OwnExternal}
use Rattle.route_lines.specs.declared.own_source.OwnSource.{OwnSource}
use Rattle.route_lines.specs.declared.route_source.RouteSource.{RouteSource}
use Rattle.route_lines.specs.RouteLines.{RouteLineValue}
use Rattle.route_report.specs.Ways.{way_over}

-- what is announced, without its Link State ID
abbrev pub own_source : OwnExternal → OwnSource
own_source own = record { is_type2 = own.is_type2; metric = own.metric; forward = own.forward }

-- what a router announces for a prefix, where its entry is an external prefix of its own
abbrev pub announced_by : Lists → RouterId → Net → EntryValue → Option OwnSource
announced_by db router net entry = if is_own_external entry then option_map own_source (own_external db router net) else None

-- where the entry of a router for a prefix comes from, and what it costs
abbrev pub source_of : Lists → RouterId → Net → EntryValue → RouteSource
source_of db router net entry = record {
  kind = entry.kind;
  metric = entry.metric;
  cost = entry.cost;
  own = announced_by db router net entry;
}

-- an entry of a router, with the ways of its match
abbrev pub line_of : Lists → RouterId → MatchValue → EntryValue → RouteLineValue
line_of db router found entry = record {
  net = found.net;
  source = source_of db router found.net entry;
  area = entry.area;
  ways = map (way_over db router) found.ways;
}

-- the same, if there is a match
abbrev pub line_by : Lists → RouterValue → Option MatchValue → Option RouteLineValue
line_by db r None = None
line_by db r (Some found) = option_map (line_of db r.router found) (entry_for r found.net)

-- what a router uses for a prefix
abbrev pub line_for : Lists → RouterValue → Net → Option RouteLineValue
line_for db r net = line_by db r (match_for db r net)

-- what it uses for an address: the entry of the longest prefix that covers it (RFC 2328, 11.1)
abbrev pub line_at : Lists → RouterValue → Addr → Option RouteLineValue
line_at db r address = line_by db r (match_of db r address)

-- all that it uses, in order of prefix
abbrev pub lines_of : Lists → RouterValue → List RouteLineValue
lines_of db r = filter_map (line_for db r) (rising prefix_cmp (nets_of r))

-- the answer of `routes`: all entries, or that for an address, if one is given
abbrev pub answered : Lists → RouterValue → Option Addr → List RouteLineValue
answered db r None = lines_of db r
answered db r (Some address) = cons_option (line_at db r address) []

abbrev pub routes_of : Lists → RouterId → Option Addr → List RouteLineValue
routes_of db router address = answered db (router_in db router) address

-- what a router uses for exactly this prefix
abbrev pub route_of : Lists → RouterId → Net → Option RouteLineValue
route_of db router net = line_for db (router_in db router) net
