-- The filters of transit networks, as they are made.
use Rattle.std.specs.Prelude.{ℕ, ◌==◌, bit_or, if◌then◌else◌, List, [], ◌∷◌, map, Some, None}
use Rattle.lsa_codec.specs.declared.address.Addr.{Addr}
use Rattle.lsa_codec.specs.declared.link.Link.{Link}
use Rattle.lsa_codec.specs.Fields.{kind_of, link_state_id_of}
use Rattle.lsa_codec.specs.Links.{is_transit, links_of}
use Rattle.lsa_codec.specs.LsTypes.{router_lsa, network_lsa}
use Rattle.lsdb.specs.declared.transit_filters.TransitFilter.{TransitFilter}
use Rattle.lsdb.specs.Slots.{Slot}
use Rattle.lsdb.specs.TransitFilters.{network_bit, block_bit}

-- no network
abbrev pub no_networks : TransitFilter
no_networks = record { networks = 0; blocks = 0 }

-- one network more
abbrev pub with_network : TransitFilter → Addr → TransitFilter
with_network filter network = record {
  networks = bit_or filter.networks (network_bit network);
  blocks = bit_or filter.blocks (block_bit network);
}

-- and that of a link, if it is a transit link
abbrev pub with_link : TransitFilter → Link → TransitFilter
with_link filter link = if is_transit link.kind then with_network filter link.id else filter

-- and those of links
abbrev pub with_links : TransitFilter → List Link → TransitFilter
with_links filter [] = filter
with_links filter (link ∷ links) = with_links (with_link filter link) links

-- the networks that an LSA is of
abbrev pub filter_of_lsa : List ℕ → TransitFilter
filter_of_lsa lsa =
    if kind_of lsa == router_lsa then with_links no_networks (links_of lsa) else
    if kind_of lsa == network_lsa then with_network no_networks (record { 0 = link_state_id_of lsa }) else no_networks

abbrev pub filter_of_slot : Slot → TransitFilter
filter_of_slot None = no_networks
filter_of_slot (Some lsa) = filter_of_lsa lsa

-- for each slot that of the LSA there
abbrev pub filters_of : List Slot → List TransitFilter
filters_of slots = map filter_of_slot slots
