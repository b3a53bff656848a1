-- The external prefixes that a router announces itself (RFC 2328, 16.4 (2)). The calculation skips a router's own
-- AS-external-LSAs: the router has another source for these prefixes, such as static routes.
use Rattle.std.specs.Prelude.{ℕ, ◌&&◌, if◌then◌else◌, List, Option, None, Some}
use Rattle.std.specs.List.{filter_map}
use Rattle.lsa_codec.specs.Order.{prefix_cmp}
use Rattle.lsa_codec.specs.Prefix.{Net}
use Rattle.lsa_codec.specs.Views.{net_of_lsa}
use Rattle.lsa_codec.specs.declared.address.RouterId.{RouterId}
use Rattle.lsdb.specs.declared.section.Section.TheVariants.{AsWide}
use Rattle.lsdb.specs.Lists.{Lists, lsas_of}
use Rattle.area_graph.specs.Rising.{rising}
use Rattle.area_routes.specs.Inter.{originator_of, same_router}
use Rattle.external_routes.specs.ExternalLsas.{is_in_use}

-- the prefix of a live AS-external-LSA of the router whose metric is below LSInfinity
abbrev pub announced : RouterId → List ℕ → Option Net
announced router lsa = if same_router (originator_of lsa) router && is_in_use lsa then Some (net_of_lsa lsa) else None

-- the prefixes of a router's own AS-external-LSAs, in order
abbrev pub own_externals : Lists → RouterId → List Net
own_externals db router = rising prefix_cmp (filter_map (announced router) (lsas_of AsWide db))
