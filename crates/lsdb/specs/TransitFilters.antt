-- Which transit networks the LSAs of a section may be of, slot by slot.
use Rattle.std.specs.Prelude.{◌≡◌, ◌^◌, ◌/◌, ◌%◌, ◌==◌, ◌&&◌, ℕ, Bool, true, not, bit_and, if◌then◌else◌, List, length, Some}
use Rattle.std.specs.List.{list_any}
use Rattle.lsa_codec.specs.declared.address.Addr.{Addr}
use Rattle.lsa_codec.specs.Fields.{kind_of}
use Rattle.lsa_codec.specs.Links.{links_of}
use Rattle.lsa_codec.specs.LsTypes.{router_lsa}
use Rattle.lsa_codec.specs.Making.{leads_to_net}
use Rattle.lsdb.specs.declared.transit_filters.TransitFilter.{TransitFilter}
use Rattle.lsdb.specs.Lists.{is_network}
use Rattle.lsdb.specs.Slots.{Slot, item_at}

-- an LSA is of the transit network whose Designated Router has this address: a router-LSA with a link to it (RFC 2328, A.4.2),
-- or the network-LSA of it (A.4.3)
abbrev pub is_of_network : Addr → List ℕ → Bool
is_of_network network lsa =
    if kind_of lsa == router_lsa then list_any (leads_to_net network) (links_of lsa) else
    is_network network lsa

-- the bit of an address, and that of the block of 65,536 addresses in which it is
abbrev pub network_bit : Addr → ℕ
network_bit network = 2 ^ (network.0 % 31)

abbrev pub block_bit : Addr → ℕ
block_bit network = 2 ^ (network.0 / 65536 % 31)

-- a filter may have a network
abbrev pub may_have : Addr → TransitFilter → Bool
may_have network filter = not (bit_and filter.networks (network_bit network) == 0) && not (bit_and filter.blocks (block_bit network) == 0)

-- a filter for each slot, which may have each network that the LSA there is of
pub record AreTransitFilters (slots : List Slot) (filters : List TransitFilter) : Type 0 where
  pub count : length filters ≡ length slots
  pub whole : (index : ℕ) (lsa : List ℕ) (filter : TransitFilter) (network : Addr) → item_at slots index ≡ Some (Some lsa)
      → item_at filters index ≡ Some filter → is_of_network network lsa ≡ true → may_have network filter ≡ true
