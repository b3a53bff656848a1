-- The linked routers and the border routers of a database, as lists (RFC 2328, 3.3 and 16.1).
use Rattle.std.specs.Prelude.{Bool, List, filter}
use Rattle.std.specs.List.{list_any}
use Rattle.std.specs.Ordering.{eq_by_cmp}
use Rattle.lsa_codec.specs.declared.address.RouterId.{RouterId}
use Rattle.lsa_codec.specs.Order.{router_cmp}
use Rattle.lsdb.specs.Lists.{Lists}
use Rattle.routing_table.specs.Routers.{attached_routers}
use Rattle.audit_areas.specs.Areas.{AreaValue, audited_areas}
use Rattle.audit_areas.specs.Borders.{is_border, is_linked}
use Rattle.audit_routers.specs.declared.linked.Role.{Role}
use Rattle.audit_routers.specs.declared.linked.Role.TheVariants.{Linked, Border}

-- a router has a role among areas
abbrev pub has_role : Role → List AreaValue → RouterId → Bool
has_role Linked areas router = is_linked areas router
has_role Border areas router = is_border areas router

-- the attached routers with an edge in some area, in rising order
abbrev pub linked_routers : Lists → List RouterId
linked_routers db = filter (is_linked (audited_areas db)) (attached_routers db)

-- those with several areas and an edge
abbrev pub border_routers : Lists → List RouterId
border_routers db = filter (is_border (audited_areas db)) (attached_routers db)

-- a router is among some routers
abbrev pub has_router : List RouterId → RouterId → Bool
has_router routers router = list_any (eq_by_cmp router_cmp router) routers
