-- Routers that LSAs of an area name, and that no router-LSA there describes (RFC 2328, 12.4.1 and 12.4.2).
use Rattle.std.specs.Prelude.{ℕ, Bool, true, false, ◌==◌, ◌&&◌, if◌then◌else◌, List, [], ◌∷◌, ◌++◌, filter, map, Option, None, Some}
use Rattle.std.specs.List.{flat_map, list_any}
use Rattle.std.specs.Ordering.{ordering_then}
use Rattle.std.specs.declared.cmp.Ordering.{Ordering}
use Rattle.lsa_codec.specs.declared.address.AreaId.{AreaId}
use Rattle.lsa_codec.specs.declared.address.RouterId.{RouterId}
use Rattle.lsa_codec.specs.Fields.{advertising_router_of}
use Rattle.lsa_codec.specs.Links.{is_point_to_point, links_of}
use Rattle.lsa_codec.specs.Order.{router_cmp}
use Rattle.lsdb.specs.declared.section.Section.TheVariants.{Area}
use Rattle.lsdb.specs.Lists.{Lists, lsas_of}
use Rattle.area_graph.specs.Area.{is_router_lsa, used}
use Rattle.area_graph.specs.Rising.{rising}
use Rattle.interfaces.specs.declared.networks.Member.{Member}
use Rattle.interfaces.specs.Networks.{members_of}
use Rattle.link_report.specs.AnyAge.{router_lsa_of_any_age}
use Rattle.link_report.specs.Areas.{area_ids}
use Rattle.link_report.specs.Links.{neighbor_of}
use Rattle.audit_places.specs.Places.{PlaceValue, undescribed}
use Rattle.audit_lsas.specs.declared.naming.Naming.{Naming}

-- by the router that is named, then by the one that names it
abbrev pub naming_cmp : Naming → Naming → Ordering
naming_cmp a b = ordering_then (router_cmp a.router b.router) (router_cmp a.by b.by)

-- ---- namings

abbrev pub named : List ℕ → RouterId → Naming
named lsa router = record { router = router; by = record { 0 = advertising_router_of lsa } }

-- the routers to which the point-to-point links of a router-LSA lead
abbrev pub neighbors_of : List ℕ → List RouterId
neighbors_of lsa = if is_router_lsa lsa then map neighbor_of (filter (λ link. is_point_to_point link.kind) (links_of lsa)) else []

-- the routers that a network-LSA lists, where the network has an edge: one of them has a link to it (16.1)
abbrev pub listed_if_linked : List Member → List RouterId
listed_if_linked members = if list_any (λ member. member.is_joined) members then map (λ member. member.router) members else []

-- the routers that an LSA of an area names
abbrev pub named_routers : Lists → AreaId → List ℕ → List RouterId
named_routers db area lsa = neighbors_of lsa ++ listed_if_linked (members_of db area lsa)

abbrev pub namings_by : Lists → AreaId → List ℕ → List Naming
namings_by db area lsa = map (named lsa) (named_routers db area lsa)

-- what the LSAs in use of an area name
abbrev pub namings_in : Lists → AreaId → List Naming
namings_in db area = flat_map (namings_by db area) (used (lsas_of (Area area) db))

-- ---- routers that are not described

abbrev pub is_none : Option (List ℕ) → Bool
is_none None = true
is_none (Some lsa) = false

-- the area has no router-LSA of the router, of any age, in either of two databases
abbrev pub is_missing : Lists → Lists → AreaId → Naming → Bool
is_missing loaded now area n =
    is_none (router_lsa_of_any_age now area n.router) && is_none (router_lsa_of_any_age loaded area n.router)

-- the first naming of each router, where these are in order and follow those of the last router
abbrev pub is_of_last : Option RouterId → Naming → Bool
is_of_last None n = false
is_of_last (Some router) n = router.0 == n.router.0

abbrev pub first_of_each : Option RouterId → List Naming → List Naming
first_of_each last [] = []
first_of_each last (n ∷ ns) =
    if is_of_last last n then first_of_each last ns else n ∷ first_of_each (Some n.router) ns

-- the namings of routers that are missing, each by the lowest router that names it
abbrev pub missing_in : Lists → Lists → AreaId → List Naming
missing_in loaded now area = first_of_each None (rising naming_cmp (filter (is_missing loaded now area) (namings_in now area)))

abbrev pub missing_place : AreaId → Naming → PlaceValue
missing_place area n = undescribed area n.router n.by

abbrev pub missing_places : Lists → Lists → AreaId → List PlaceValue
missing_places loaded now area = map (missing_place area) (missing_in loaded now area)

-- in a database that was loaded as another one: what an edit removed is not meant
abbrev pub undescribed_router_places : Lists → Lists → List PlaceValue
undescribed_router_places loaded now = flat_map (missing_places loaded now) (area_ids now)
