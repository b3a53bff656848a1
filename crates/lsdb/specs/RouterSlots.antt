-- The slots of a section at which LSAs of one router stand.
use Rattle.std.specs.Prelude.{◌≡◌, ◌<◌, ℕ, List, Some, All, AllPairs, Contains}
use Rattle.lsa_codec.specs.declared.address.RouterId.{RouterId}
use Rattle.lsa_codec.specs.Fields.{advertising_router_of}
use Rattle.lsdb.specs.declared.slot_index.SlotOf.{SlotOf}
use Rattle.lsdb.specs.Slots.{Slot, item_at}

-- a slot of a router
abbrev pub SlotOfRouter : Type 0
SlotOfRouter = SlotOf RouterId

abbrev pub router_of : List ℕ → RouterId
router_of lsa = record { 0 = advertising_router_of lsa }

-- the slot with that index, at which this LSA stands
abbrev pub router_slot : ℕ → List ℕ → SlotOfRouter
router_slot index lsa = record { key = router_of lsa; index = index }

-- slots of one router in rising order of their indices, among them that of each LSA with this Advertising Router
pub record AreSlotsOfRouter (slots : List Slot) (router : RouterId) (found : List SlotOfRouter) : Type 0 where
  pub rising : AllPairs (λ a b. a.index < b.index) found
  pub own : All (λ slot. slot.key ≡ router) found
  pub whole : (index : ℕ) (lsa : List ℕ) → item_at slots index ≡ Some (Some lsa) → advertising_router_of lsa ≡ router.0
      → Contains found (router_slot index lsa)
