-- The slots of a section at which LSAs of one router for one prefix stand.
use Rattle.std.specs.Prelude.{◌≡◌, ◌<◌, ◌==◌, ◌||◌, ℕ, List, Option, Some, None, All, AllPairs, Contains, if◌then◌else◌}
use Rattle.lsa_codec.specs.declared.address.RouterId.{RouterId}
use Rattle.lsa_codec.specs.Fields.{kind_of, advertising_router_of}
use Rattle.lsa_codec.specs.LsTypes.{summary_lsa, external_lsa}
use Rattle.lsa_codec.specs.Prefix.{Net}
use Rattle.lsa_codec.specs.Views.{net_of_lsa}
use Rattle.lsdb.specs.declared.origin.Origin.{Origin}
use Rattle.lsdb.specs.declared.slot_index.SlotOf.{SlotOf}
use Rattle.lsdb.specs.Slots.{Slot, item_at}

-- the prefix of a summary-LSA of type 3 or of an AS-external-LSA; others have none
abbrev pub prefix_of : List ℕ → Option Net
prefix_of lsa = if (kind_of lsa == summary_lsa) || (kind_of lsa == external_lsa) then Some (net_of_lsa lsa) else None

-- a router and a prefix
abbrev pub origin_of : RouterId → Net → Origin
origin_of router net = record { adv = router; network = net.addr; mask_length = net.len }

-- a slot of a router and a prefix
abbrev pub SlotOfPrefix : Type 0
SlotOfPrefix = SlotOf Origin

-- the slot with that index, at which an LSA of a router for a prefix stands
abbrev pub prefix_slot : ℕ → RouterId → Net → SlotOfPrefix
prefix_slot index router net = record { key = origin_of router net; index = index }

-- slots of one router for one prefix in rising order of their indices, among them that of each LSA with this Advertising
-- Router and this prefix
pub record AreSlotsOfPrefix (slots : List Slot) (router : RouterId) (net : Net) (found : List SlotOfPrefix) : Type 0 where
  pub rising : AllPairs (λ a b. a.index < b.index) found
  pub own : All (λ slot. slot.key ≡ origin_of router net) found
  pub whole : (index : ℕ) (lsa : List ℕ) → item_at slots index ≡ Some (Some lsa) → advertising_router_of lsa ≡ router.0
      → prefix_of lsa ≡ Some net → Contains found (prefix_slot index router net)
