-- The routers that announce prefixes (RFC 2328, 12.4.1 to 12.4.4).
use Rattle.std.specs.Prelude.{ℕ, Bool, if◌then◌else◌, List, [], ◌++◌, map, Option, None, Some}
use Rattle.std.specs.List.{cons_option, filter, flat_map}
use Rattle.std.specs.Ordering.{eq_by_cmp}
use Rattle.lsa_codec.specs.Order.{prefix_cmp, router_cmp}
use Rattle.lsa_codec.specs.Prefix.{Net}
use Rattle.lsa_codec.specs.declared.address.RouterId.{RouterId}
use Rattle.lsdb.specs.declared.section.Section.TheVariants.{AsWide}
use Rattle.lsdb.specs.Lists.{Lists, lsas_of}
use Rattle.area_graph.specs.Rising.{rising}
use Rattle.area_routes.specs.Inter.{originator_of}
use Rattle.routing_table.specs.AreaLsas.{area_lsas}
use Rattle.forwarding.specs.Matches.{has_net}
use Rattle.lost_routes.specs.declared.pairs.RouterPrefix.{RouterPrefix}
use Rattle.lost_routes.specs.Announced.{AnnouncedValue, external_prefix, live_networks, summary_prefix}
use Rattle.lost_routes.specs.LostPairs.{pairs_of}

-- a prefix, unless it was a network of an area in the baseline: a summary-LSA may outlive that
abbrev pub unless_network : AnnouncedValue → Option Net → Option Net
unless_network baseline None = None
unless_network baseline (Some net) = if has_net baseline.networks net then None else Some net

-- the prefixes that an LSA of an area announces
abbrev pub area_nets : AnnouncedValue → List ℕ → List Net
area_nets baseline lsa = rising prefix_cmp (live_networks lsa) ++ cons_option (unless_network baseline (summary_prefix lsa)) []

-- the router of an LSA with each of them
abbrev pub by_area_lsa : AnnouncedValue → List ℕ → List RouterPrefix
by_area_lsa baseline lsa = pairs_of (originator_of lsa) (area_nets baseline lsa)

-- the router of an AS-external-LSA that is in use with its prefix
abbrev pub by_external : List ℕ → List RouterPrefix
by_external lsa = pairs_of (originator_of lsa) (cons_option (external_prefix lsa) [])

-- routers with the prefixes that they announce, where another database was the baseline
abbrev pub announcements : AnnouncedValue → Lists → List RouterPrefix
announcements baseline db = flat_map (by_area_lsa baseline) (area_lsas db) ++ flat_map by_external (lsas_of AsWide db)

abbrev pub is_for : Net → RouterPrefix → Bool
is_for net pair = eq_by_cmp prefix_cmp net pair.net

-- the routers that announce a prefix, in order
abbrev pub announcers : List RouterPrefix → Net → List RouterId
announcers pairs net = rising router_cmp (map (λ pair. pair.router) (filter (is_for net) pairs))
