-- The places of findings, with lists.
use Rattle.std.specs.Prelude.{ℕ, List, Option}
use Rattle.lsa_codec.specs.declared.address.Addr.{Addr}
use Rattle.lsa_codec.specs.declared.address.AreaId.{AreaId}
use Rattle.lsa_codec.specs.declared.address.RouterId.{RouterId}
use Rattle.lsa_codec.specs.Prefix.{Net}
use Rattle.area_graph.specs.declared.vertex.Vertex.{Vertex}
use Rattle.lsa_names.specs.declared.lsa_name.LsaName.{LsaName}
use Rattle.audit_places.specs.declared.cost.Cost.{Cost}
use Rattle.audit_places.specs.declared.form.Form.{Form}
use Rattle.audit_places.specs.declared.form.Form.TheVariants as form

-- where something is found, and what
pub data PlaceValue : Type 0 where
  -- an LSA
  at_lsa : LsaName → PlaceValue
  -- a summary-LSA, its metric, and the metric that it is due, if it is due
  not_due : LsaName → ℕ → Option ℕ → PlaceValue
  -- a summary-LSA that is not there, and the metric that it is due
  not_there : LsaName → ℕ → PlaceValue
  -- a router
  at_router : RouterId → PlaceValue
  -- a router and a prefix
  at_route : RouterId → Net → PlaceValue
  -- an area and its parts
  in_parts : AreaId → List (List RouterId) → PlaceValue
  -- an area, a router that is not described in it, and the router whose LSA names it
  undescribed : AreaId → RouterId → RouterId → PlaceValue
  -- a prefix and the Link State IDs of its networks
  several_networks : Net → List Addr → PlaceValue
  -- an address and the routers that have it
  shared_address : Addr → List RouterId → PlaceValue
  -- an area, a router, the number of its link, and what the link leads to
  one_way : AreaId → RouterId → ℕ → Vertex → PlaceValue
  -- a network-LSA and a router that it lists
  one_way_member : LsaName → RouterId → PlaceValue
  -- an area, a router, the number of its link, the router that the link leads to, its cost, and the costs back
  unequal_cost : AreaId → RouterId → ℕ → RouterId → ℕ → List Cost → PlaceValue
  -- an area, a router, the address of its interface, and the neighbors there
  several_neighbors : AreaId → RouterId → Addr → List RouterId → PlaceValue

-- the place of a form
abbrev pub place_value : {A : Type 0} → Form A → PlaceValue
place_value (form.Lsa lsa) = at_lsa lsa
place_value (form.Due lsa metric due) = not_due lsa metric due
place_value (form.Missing lsa metric) = not_there lsa metric
place_value (form.Router router) = at_router router
place_value (form.Route router net) = at_route router net
place_value (form.Parts area parts) = in_parts area parts.items
place_value (form.Undescribed area router by) = undescribed area router by
place_value (form.Networks net addresses) = several_networks net addresses.items
place_value (form.SharedAddress address routers) = shared_address address routers.items
place_value (form.OneWay area router number to) = one_way area router number to
place_value (form.Member lsa router) = one_way_member lsa router
place_value (form.Unequal area router number to cost back) = unequal_cost area router number to cost back.items
place_value (form.Interface area router address neighbors) = several_neighbors area router address neighbors.items
