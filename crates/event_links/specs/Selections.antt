-- Which links an event changes, in each area and in all of them.
use Rattle.std.specs.Prelude.{ℕ, ◌==◌, ◌||◌, not, nat_le, Bool, List, [], length, filter, map, Option, option_map, if◌then◌else◌}
use Rattle.std.specs.List.{flat_map, find, list_any, list_all}
use Rattle.lsa_codec.specs.declared.address.Addr.{Addr}
use Rattle.lsa_codec.specs.declared.address.AreaId.{AreaId}
use Rattle.lsa_codec.specs.declared.address.RouterId.{RouterId}
use Rattle.lsa_codec.specs.declared.link.Link.{Link}
use Rattle.lsa_codec.specs.Key.{router_key}
use Rattle.lsdb.specs.Lists.{AreaHead, Lists, areas_of, has_key}
use Rattle.event_links.specs.declared.selection.Selection.{Selection}
use Rattle.event_links.specs.declared.selection.Selection.TheVariants.{Between, OneLink, Towards, AtAddress, StubsAt, ToOthers}
use Rattle.event_links.specs.Interfaces.{links_of_interfaces, links_to, interfaces_at, ends_of, links_at, stubs_at, transit_links}

-- the ID of an area
abbrev pub id_of : AreaHead → AreaId
id_of head = record { 0 = head.id }

-- the areas of a database
abbrev pub area_ids : Lists → List AreaId
area_ids db = map id_of (areas_of db)

-- the links of an area that an event changes: those of a router, and those of its neighbor
pub record ChosenData : Type 0 where
  pub router : RouterId
  pub own : List Link
  pub neighbor : RouterId
  pub others : List Link

-- the chosen links of an LSA: those of a router-LSA of either
abbrev pub chosen_of : ChosenData → List ℕ → List Link
chosen_of chosen lsa =
    if has_key (router_key chosen.router) lsa then chosen.own else
    if has_key (router_key chosen.neighbor) lsa then chosen.others else []

-- links of one router alone
abbrev pub of_one : RouterId → List Link → ChosenData
of_one router links = record { router = router; own = links; neighbor = router; others = [] }

-- links of two routers
abbrev pub of_both : RouterId → List Link → RouterId → List Link → ChosenData
of_both router own neighbor others = record { router = router; own = own; neighbor = neighbor; others = others }

-- those with this mask
abbrev pub with_mask : ℕ → List Link → List Link
with_mask mask links = filter (λ link. link.link_data.0 == mask) links

-- the links of a selection in an area
abbrev pub chosen_in : Lists → AreaId → Selection → ChosenData
chosen_in db area (Between router neighbor) = of_both router (links_to db area router neighbor) neighbor (links_to db area neighbor router)
chosen_in db area (OneLink end) =
    let owns = interfaces_at db area end in
    of_both end.router (links_of_interfaces db area end.router owns)
    end.neighbor (links_of_interfaces db area end.neighbor (ends_of db area end.router owns))
chosen_in db area (Towards router neighbor) = of_one router (links_to db area router neighbor)
chosen_in db area (AtAddress router address) = of_one router (links_at db area router address)
chosen_in db area (StubsAt router address mask) = of_one router (with_mask mask (stubs_at db area router address))
chosen_in db area (ToOthers router) = of_one router (transit_links db area router)

-- those of all areas
abbrev pub chosen_everywhere : Lists → Selection → List ChosenData
chosen_everywhere db selection = map (λ area. chosen_in db area selection) (area_ids db)

-- links are chosen there
abbrev pub is_chosen : ChosenData → Bool
is_chosen chosen = not (length chosen.own == 0) || not (length chosen.others == 0)

abbrev pub is_somewhere : Lists → Selection → Bool
is_somewhere db selection = list_any is_chosen (chosen_everywhere db selection)

-- the links to stub networks of a router that have an address, in all areas
abbrev pub stubs_everywhere : Lists → RouterId → Addr → List Link
stubs_everywhere db router address = flat_map (λ area. stubs_at db area router address) (area_ids db)

-- none of these links has a longer mask
abbrev pub is_longest : List Link → Link → Bool
is_longest links link = list_all (λ other. nat_le other.link_data.0 link.link_data.0) links

-- the longest mask of stub links: that of the smallest network
abbrev pub longest_mask : List Link → Option ℕ
longest_mask links = option_map (λ link. link.link_data.0) (find (is_longest links) links)
