-- `one-way-link`: links, and members of networks, without a link back (RFC 2328, 16.1).
use Rattle.std.specs.Prelude.{ℕ, ◌+◌, Bool, not, if◌then◌else◌, List, [], map, filter, Option, None, Some}
use Rattle.std.specs.List.{enumerate_from, filter_map, flat_map}
use Rattle.std.specs.Ordering.{ordering_then}
use Rattle.std.specs.declared.cmp.Ordering.{Ordering}
use Rattle.lsa_codec.specs.declared.address.AreaId.{AreaId}
use Rattle.lsa_codec.specs.declared.address.RouterId.{RouterId}
use Rattle.lsa_codec.specs.declared.key.Key.{Key}
use Rattle.lsa_codec.specs.declared.link.Link.{Link}
use Rattle.lsa_codec.specs.Fields.{link_state_id_of}
use Rattle.lsa_codec.specs.Key.{key_of}
use Rattle.lsa_codec.specs.Order.{key_cmp, prefix_cmp, router_cmp}
use Rattle.lsa_codec.specs.Prefix.{Net}
use Rattle.lsa_codec.specs.Views.{attached_of, net_of_lsa}
use Rattle.area_graph.specs.declared.vertex.Vertex.{Vertex}
use Rattle.area_graph.specs.declared.vertex.Vertex.TheVariants.{Router, Network}
use Rattle.area_graph.specs.Area.{is_network_lsa, used}
use Rattle.area_graph.specs.AreaEdges.{target_of}
use Rattle.area_graph.specs.Rising.{rising}
use Rattle.audit_places.specs.Places.{PlaceValue, one_way, one_way_member}
use Rattle.audit_areas.specs.Areas.{AreaValue, lsas_in}
use Rattle.audit_links.specs.declared.one_way_members.ListedRouter.{ListedRouter}
use Rattle.audit_links.specs.Links.{leads_from, links_in}

-- ---- links

module _ (area : AreaId) (router : RouterId) (leads : Vertex → Bool) where
  -- the place of a link to a vertex, with this number of links before it, unless an edge leads there
  abbrev pub place_to : ℕ → Option Vertex → Option PlaceValue
  place_to before None = None
  place_to before (Some v) = if leads v then None else Some (one_way area router (before + 1) v)

  abbrev pub place_of_link : ℕ × Link → Option PlaceValue
  place_of_link one = place_to one.0 (target_of one.1)

  -- the places of some links of a router, by number
  abbrev pub places_of_links : List Link → List PlaceValue
  places_of_links links = filter_map place_of_link (enumerate_from 0 links)

-- the links of types 1 and 2 of a router that no edge leads over: the neighbor has no type 1 link back, or the network-LSA in use is
-- missing or does not list the router
abbrev pub one_way_links : AreaValue → RouterId → List PlaceValue
one_way_links area router = places_of_links area.area router (leads_from area (Router router)) (links_in area router)

-- ---- members

-- the routers of these that no edge leads to
abbrev pub not_led_to : (Vertex → Bool) → List RouterId → List RouterId
not_led_to leads routers = filter (λ router. not (leads (Router router))) routers

abbrev pub listed_router : Key → Net → RouterId → ListedRouter
listed_router lsa net router = record { lsa = lsa; router = router; net = net }

-- the routers that a network-LSA lists and that no edge leads to: they have no link to the network
abbrev pub listed_by : AreaValue → List ℕ → List ListedRouter
listed_by area lsa =
    map (listed_router (key_of lsa) (net_of_lsa lsa))
    (not_led_to (leads_from area (Network (record { 0 = link_state_id_of lsa }))) (attached_of lsa))

-- the same of any LSA
abbrev pub listed_alone : AreaValue → List ℕ → List ListedRouter
listed_alone area lsa = if is_network_lsa lsa then listed_by area lsa else []

-- by LSA, then by router
abbrev pub listed_cmp : ListedRouter → ListedRouter → Ordering
listed_cmp a b = ordering_then (key_cmp a.lsa b.lsa) (ordering_then (router_cmp a.router b.router) (prefix_cmp a.net b.net))

-- those of the network-LSAs in use of an area
abbrev pub listed_in : AreaValue → List ListedRouter
listed_in area = rising listed_cmp (flat_map (listed_alone area) (used (lsas_in area)))

abbrev pub place_of_member : AreaId → ListedRouter → PlaceValue
place_of_member area listed = one_way_member (record { area = Some area; key = listed.lsa; net = Some listed.net }) listed.router

abbrev pub one_way_members : AreaValue → List PlaceValue
one_way_members area = map (place_of_member area.area) (listed_in area)
