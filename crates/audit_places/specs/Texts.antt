-- The texts of places.
use Rattle.std.specs.Prelude.{ℕ, List, ◌++◌, map, Option, None, Some, codes, decimal}
use Rattle.lsa_codec.specs.declared.address.Addr.{Addr}
use Rattle.lsa_codec.specs.declared.address.AreaId.{AreaId}
use Rattle.lsa_codec.specs.declared.address.RouterId.{RouterId}
use Rattle.lsa_codec.specs.Spelling.{address_text, prefix_text}
use Rattle.area_graph.specs.declared.vertex.Vertex.{Vertex}
use Rattle.area_graph.specs.declared.vertex.Vertex.TheVariants.{Router, Network}
use Rattle.lsa_names.specs.LsaNames.{name_text}
use Rattle.study_text.specs.Lists.{joined, listed}
use Rattle.study_text.specs.Shown.{Called, shown}
use Rattle.audit_places.specs.declared.cost.Cost.{Cost}
use Rattle.audit_places.specs.Places.{PlaceValue, at_lsa, not_due, not_there, at_router, at_route, in_parts, undescribed, several_networks, shared_address, one_way, one_way_member, unequal_cost, several_neighbors}

-- ---- parts of texts

abbrev pub routers_text : Called → List RouterId → List ℕ
routers_text called routers = listed (map (shown called) routers)

abbrev pub router_text : Called → RouterId → List ℕ
router_text called router = codes "router " ++ shown called router

abbrev pub area_text : AreaId → List ℕ
area_text area = codes "area " ++ address_text area.0

-- a router in an area
abbrev pub in_area_text : Called → AreaId → RouterId → List ℕ
in_area_text called area router = area_text area ++ codes " " ++ router_text called router

-- a link of a router in an area, by its number
abbrev pub link_text : Called → AreaId → RouterId → ℕ → List ℕ
link_text called area router number = in_area_text called area router ++ codes " #" ++ decimal number ++ codes " to "

-- the metric of a summary-LSA
abbrev pub metric_text : ℕ → List ℕ
metric_text metric = codes " metric " ++ decimal metric

-- the metric that a summary-LSA is due, or `none`
abbrev pub due_text : Option ℕ → List ℕ
due_text None = codes " due none"
due_text (Some metric) = codes " due " ++ decimal metric

-- a router by its name, a network by the address of its Designated Router
abbrev pub end_text : Called → Vertex → List ℕ
end_text called (Router router) = shown called router
end_text called (Network address) = address_text address.0

abbrev pub parts_text : Called → List (List RouterId) → List ℕ
parts_text called parts = codes " parts " ++ joined (codes " | ") (map (routers_text called) parts)

abbrev pub networks_text : List Addr → List ℕ
networks_text addresses = codes " networks " ++ listed (map (λ address. address_text address.0) addresses)

-- the cost of a link, and the costs back
abbrev pub costs_text : ℕ → List Cost → List ℕ
costs_text cost back = codes " cost " ++ decimal cost ++ codes " back " ++ joined (codes "/") (map (λ one. decimal one.0) back)

abbrev pub interface_text : Addr → List ℕ
interface_text address = codes " interface " ++ address_text address.0 ++ codes " to "

-- ---- places

abbrev pub place_text : Called → PlaceValue → List ℕ
place_text called (at_lsa lsa) = name_text called lsa
place_text called (not_due lsa metric due) = name_text called lsa ++ metric_text metric ++ due_text due
place_text called (not_there lsa metric) = name_text called lsa ++ metric_text metric
place_text called (at_router router) = router_text called router
place_text called (at_route router net) = router_text called router ++ codes " " ++ prefix_text net
place_text called (in_parts area parts) = area_text area ++ parts_text called parts
place_text called (undescribed area router by) = in_area_text called area router ++ codes " named by " ++ shown called by
place_text called (several_networks net addresses) = prefix_text net ++ networks_text addresses
place_text called (shared_address address routers) = address_text address.0 ++ codes " routers " ++ routers_text called routers
place_text called (one_way area router number to) = link_text called area router number ++ end_text called to
place_text called (one_way_member lsa router) = name_text called lsa ++ codes " member " ++ shown called router
place_text called (unequal_cost area router number to cost back) = link_text called area router number ++ shown called to ++ costs_text cost back
place_text called (several_neighbors area router address neighbors) =
    in_area_text called area router ++ interface_text address ++ routers_text called neighbors
