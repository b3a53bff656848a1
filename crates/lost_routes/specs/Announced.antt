-- The prefixes that LSAs announce (RFC 2328, 12.4.1 to 12.4.4).
use Rattle.std.specs.Prelude.{ℕ, Bool, ◌&&◌, ◌||◌, ◌==◌, not, nat_lt, if◌then◌else◌, List, [], ◌∷◌, Option, None, Some}
use Rattle.std.specs.List.{filter_map, flat_map}
use Rattle.lsa_codec.specs.Fields.{kind_of}
use Rattle.lsa_codec.specs.Links.{links_of, stub_net}
use Rattle.lsa_codec.specs.LsTypes.{summary_lsa}
use Rattle.lsa_codec.specs.Order.{prefix_cmp}
use Rattle.lsa_codec.specs.Prefix.{Net}
use Rattle.lsa_codec.specs.Views.{ls_infinity, metric_of, net_of_lsa}
use Rattle.lsdb.specs.declared.section.Section.TheVariants.{AsWide}
use Rattle.lsdb.specs.Lists.{Lists, lsas_of}
use Rattle.area_graph.specs.Area.{is_live, is_network_lsa, is_router_lsa}
use Rattle.area_graph.specs.Rising.{rising}
use Rattle.external_routes.specs.ExternalLsas.{is_in_use}
use Rattle.routing_table.specs.AreaLsas.{area_lsas}
use Rattle.forwarding.specs.Matches.{has_net}

-- the stub networks of a router-LSA, or the network of a network-LSA (12.4.1, 12.4.2)
abbrev pub networks_of : List ℕ → List Net
networks_of lsa =
    if is_router_lsa lsa then filter_map stub_net (links_of lsa) else
    if is_network_lsa lsa then net_of_lsa lsa ∷ [] else []

-- those of an LSA that is live
abbrev pub live_networks : List ℕ → List Net
live_networks lsa = if is_live lsa then networks_of lsa else []

-- a live summary-LSA of type 3 whose metric is below LSInfinity (12.4.3)
abbrev pub is_summary_in_use : List ℕ → Bool
is_summary_in_use lsa = (kind_of lsa == summary_lsa) && (is_live lsa && nat_lt (metric_of lsa) ls_infinity)

-- the prefix of such an LSA
abbrev pub summary_prefix : List ℕ → Option Net
summary_prefix lsa = if is_summary_in_use lsa then Some (net_of_lsa lsa) else None

-- the prefix of an AS-external-LSA that is in use (12.4.4)
abbrev pub external_prefix : List ℕ → Option Net
external_prefix lsa = if is_in_use lsa then Some (net_of_lsa lsa) else None

-- the prefixes that the LSAs of a database announce, each in order: networks of its areas, external ones, and those of
-- summary-LSAs
pub record AnnouncedValue : Type 0 where
  pub networks : List Net
  pub externals : List Net
  pub summaries : List Net

-- these three
abbrev pub announced_by : List Net → List Net → List Net → AnnouncedValue
announced_by networks externals summaries = record { networks = networks; externals = externals; summaries = summaries }

abbrev pub announced_in : Lists → AnnouncedValue
announced_in db = record {
  networks = rising prefix_cmp (flat_map live_networks (area_lsas db));
  externals = rising prefix_cmp (filter_map external_prefix (lsas_of AsWide db));
  summaries = rising prefix_cmp (filter_map summary_prefix (area_lsas db));
}

-- somebody announces a prefix, where another database was the baseline: it is a network of an area, or external, or of a
-- summary-LSA, unless it was a network of an area in the baseline, which the summary-LSA may outlive
abbrev pub is_announced : AnnouncedValue → AnnouncedValue → Net → Bool
is_announced baseline now net =
    has_net now.networks net || (has_net now.externals net || (has_net now.summaries net && not (has_net baseline.networks net)))
