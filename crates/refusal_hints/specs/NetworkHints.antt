-- What would have been right in place of a transit network that a router is not on.
use Rattle.std.specs.Prelude.{ℕ, ◌==◌, ◌&&◌, ◌||◌, Bool, List, ◌++◌, map, codes, Option, None, Some, if◌then◌else◌}
use Rattle.std.specs.List.{filter_map, flat_map, list_any}
use Rattle.area_graph.specs.Area.{is_live, is_network_lsa}
use Rattle.area_graph.specs.Rising.{rising}
use Rattle.lsa_codec.specs.Fields.{advertising_router_of, link_state_id_of}
use Rattle.lsa_codec.specs.Order.{prefix_cmp}
use Rattle.lsa_codec.specs.Prefix.{Net}
use Rattle.lsa_codec.specs.Spelling.{address_text, prefix_text}
use Rattle.lsa_codec.specs.Views.{net_of_lsa}
use Rattle.lsa_codec.specs.declared.address.AreaId.{AreaId}
use Rattle.lsa_codec.specs.declared.address.RouterId.{RouterId}
use Rattle.lsdb.specs.Lists.{Lists, lsas_of}
use Rattle.lsdb.specs.declared.section.Section.TheVariants.{Area}
use Rattle.link_report.specs.Areas.{area_ids}
use Rattle.study_text.specs.Lists.{joined_or}
use Rattle.refusal_hints.specs.declared.router_links.Sought.TheVariants.{Networks}
use Rattle.refusal_hints.specs.RouterLinks.{sought_in}

-- a router is on the network of a network-LSA where it originated the LSA, or has a link to the network (RFC 2328, 12.4.1.2 and
-- 12.4.2)
abbrev pub is_on : RouterId → List ℕ → List ℕ → Bool
is_on router linked lsa = (advertising_router_of lsa == router.0) || list_any (λ other. other == link_state_id_of lsa) linked

-- the prefix of an LSA, if it is a live network-LSA of a network that the router is on
abbrev pub net_if_on : RouterId → List ℕ → List ℕ → Option Net
net_if_on router linked lsa = if is_network_lsa lsa && (is_live lsa && is_on router linked lsa) then Some (net_of_lsa lsa) else None

-- the prefixes of the networks of an area that the router is on
abbrev pub nets_in : Lists → RouterId → AreaId → List Net
nets_in db router area = filter_map (net_if_on router (sought_in Networks db router area)) (lsas_of (Area area) db)

-- those of several areas, in rising order, each once
abbrev pub nets_among : Lists → RouterId → List AreaId → List Net
nets_among db router areas = rising prefix_cmp (flat_map (nets_in db router) areas)

-- `2.2.2.2 is on 10.1.0.0/24, 10.2.0.0/24`
abbrev pub networks_hint : Lists → RouterId → List ℕ
networks_hint db router =
    address_text router.0
    ++ joined_or (codes " is on no transit network") (codes " is on ") (codes ", ") (map prefix_text (nets_among db router (area_ids db)))
