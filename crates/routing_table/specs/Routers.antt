-- The routers of a link state database (RFC 2328, 12.4.1).
use Rattle.std.specs.Prelude.{ℕ, List, Option, Some, None, ◌&&◌, if◌then◌else◌}
use Rattle.std.specs.List.{filter_map}
use Rattle.lsa_codec.specs.declared.address.RouterId.{RouterId}
use Rattle.lsa_codec.specs.Fields.{link_state_id_of}
use Rattle.lsdb.specs.Lists.{Lists}
use Rattle.area_graph.specs.Area.{is_live, is_router_lsa}
use Rattle.area_graph.specs.Rising.{rising}
use Rattle.lsa_codec.specs.Order.{router_cmp}
use Rattle.routing_table.specs.AreaLsas.{area_lsas}

-- the router of a router-LSA that is not at MaxAge
abbrev pub live_router : List ℕ → Option RouterId
live_router lsa = if is_live lsa && is_router_lsa lsa then Some (record { 0 = link_state_id_of lsa }) else None

-- the routers of the live router-LSAs of all areas, rising, each once
abbrev pub attached_routers : Lists → List RouterId
attached_routers db = rising router_cmp (filter_map live_router (area_lsas db))
