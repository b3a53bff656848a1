-- Single failures, each as an edit: of links between two routers, of transit networks, of routers (RFC 2328, 12.4.1, 12.4.2 and
-- 16.1).
use Rattle.std.specs.Prelude.{◌==◌, ◌&&◌, not, Bool, true, nat_le, nat_lt, if◌then◌else◌, List, ◌++◌, length, map, filter, count_by, Option, None, Some}
use Rattle.std.specs.List.{filter_map}
use Rattle.lsa_codec.specs.declared.address.Addr.{Addr}
use Rattle.lsa_codec.specs.declared.address.AreaId.{AreaId}
use Rattle.lsa_codec.specs.declared.address.RouterId.{RouterId}
use Rattle.lsa_codec.specs.Links.{is_point_to_point}
use Rattle.lsdb.specs.Lists.{Lists}
use Rattle.area_routes.specs.Attached.{is_attached}
use Rattle.routing_table.specs.Routers.{attached_routers}
use Rattle.link_report.specs.Links.{LinkValue, links_of_routers, neighbor_of}
use Rattle.link_report.specs.Networks.{NetworkValue, network_values}
use Rattle.study_words.specs.declared.failure_kind.FailureKind.{FailureKind}
use Rattle.study_words.specs.declared.failure_kind.FailureKind.TheVariants as kinds
use Rattle.edit_script.specs.declared.edit.Edit.{Edit}
use Rattle.edit_script.specs.declared.edit.Edit.TheVariants.{FailNet, Event as of_event}
use Rattle.edit_script.specs.declared.event.Event.TheVariants.{Cut, Fail}
use Rattle.sweep_report.specs.declared.links.UsedLink.{UsedLink}

-- the area is the one that is named; each is where none is
abbrev pub is_within : Option AreaId → AreaId → Bool
is_within None area = true
is_within (Some one) area = one.0 == area.0

-- ---- links

-- a link of type 1 that routers use: the neighbor has a link back (16.1, step 2 (b)). Of its two ends, the one of the lower
-- Router ID.
abbrev pub is_lower_end : LinkValue → Bool
is_lower_end v = is_point_to_point v.link.kind && (nat_lt v.router.0 v.link.id.0 && not (length v.back == 0))

abbrev pub used_link : LinkValue → Option UsedLink
used_link v =
    if is_lower_end v
    then Some (record { area = v.area; router = v.router; neighbor = neighbor_of v.link; address = v.link.link_data }) else None

-- those of all areas, by router, area and number of the link
abbrev pub used_links : Lists → List UsedLink
used_links db = filter_map used_link (links_of_routers db (attached_routers db))

-- two links are between the same routers
abbrev pub joins_same : UsedLink → UsedLink → Bool
joins_same one other = (one.router.0 == other.router.0) && (one.neighbor.0 == other.neighbor.0)

-- a link is the only one between its routers, in all areas
abbrev pub is_only : List UsedLink → UsedLink → Bool
is_only all one = nat_le (count_by (joins_same one) all) 1

-- the address of a link, where it is not the only one
abbrev pub address_of : List UsedLink → UsedLink → Option Addr
address_of all one = if is_only all one then None else Some one.address

-- the failure of a link
abbrev pub cut_of : List UsedLink → UsedLink → Edit
cut_of all one = of_event (Cut one.router one.neighbor (address_of all one))

abbrev pub cuts : Option AreaId → List UsedLink → List Edit
cuts within all = map (cut_of all) (filter (λ one. is_within within one.area) all)

abbrev pub link_failures : Option AreaId → Lists → List Edit
link_failures within db = cuts within (used_links db)

-- ---- networks

-- the failure of a transit network
abbrev pub network_failure : NetworkValue → Edit
network_failure network = FailNet network.area network.place.address

abbrev pub network_failures_among : Option AreaId → List NetworkValue → List Edit
network_failures_among within networks = map network_failure (filter (λ network. is_within within network.area) networks)

-- those of the networks that `networks` shows, by area, prefix and Link State ID
abbrev pub network_failures : Option AreaId → Lists → List Edit
network_failures within db = network_failures_among within (network_values db)

-- ---- routers

-- the router is attached to the area that is named; each is where none is
abbrev pub is_in : Lists → Option AreaId → RouterId → Bool
is_in db None router = true
is_in db (Some area) router = is_attached db area router

-- the failure of a router
abbrev pub router_failure : RouterId → Edit
router_failure router = of_event (Fail router)

abbrev pub router_failures_of : Lists → Option AreaId → List RouterId → List Edit
router_failures_of db within routers = map router_failure (filter (is_in db within) routers)

-- those of the routers with live router-LSAs, in order of Router ID
abbrev pub router_failures : Option AreaId → Lists → List Edit
router_failures within db = router_failures_of db within (attached_routers db)

-- ---- all of them

abbrev pub all_failures : Option AreaId → Lists → List Edit
all_failures within db = link_failures within db ++ (network_failures within db ++ router_failures within db)

-- the failures of a kind, all or those within an area
abbrev pub failures : FailureKind → Option AreaId → Lists → List Edit
failures kinds.Links within db = link_failures within db
failures kinds.Networks within db = network_failures within db
failures kinds.Routers within db = router_failures within db
failures kinds.All within db = all_failures within db
