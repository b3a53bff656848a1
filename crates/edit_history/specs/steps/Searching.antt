-- Where LSAs that are looked up by more than their keys are among the keys.
use Rattle.std.specs.Prelude.{◌≡◌, ℕ, ◌+◌, ◌-◌, ◌^◌, min, Bool, true, ◌&&◌, ◌==◌, List, Option, Some, None}
use Rattle.lsa_codec.specs.declared.key.Key.{Key}
use Rattle.lsa_codec.specs.declared.address.RouterId.{RouterId}
use Rattle.lsa_codec.specs.Fields.{advertising_router_of}
use Rattle.lsa_codec.specs.Prefix.{Net, mask_of_len}
use Rattle.lsdb.specs.KeyRanges.{KeyAt}
use Rattle.lsdb.specs.Slots.{Slots, slot_at}
use Rattle.lsdb.specs.PrefixSlots.{prefix_of}
use Rattle.edit_history.specs.declared.lookup.Wanted.{Wanted}
use Rattle.edit_history.specs.declared.lookup.Wanted.TheVariants as wanted
use Rattle.edit_history.specs.steps.Plans.{is_wanted, passes, slot_of}

-- one router originated each LSA that passes a test, and for one prefix
abbrev pub AreOriginatedFor : RouterId → Net → (List ℕ → Bool) → Type 0
AreOriginatedFor router net test = (lsa : List ℕ) → test lsa ≡ true → (advertising_router_of lsa ≡ router.0) × (prefix_of lsa ≡ Some net)

-- the last address of a prefix, with all bits past its length set to 1
abbrev pub last_addr_of : Net → ℕ
last_addr_of net = net.addr.0 + (2 ^ 32 - 1 - mask_of_len net.len)

-- whether an LSA with this key may be a wanted one: its router may have originated one
abbrev pub may_have : Wanted → Key → Bool
may_have (wanted.Network network) key = true
may_have (wanted.Summary router prefix) key = key.adv.0 == router.0
may_have (wanted.External router prefix) key = key.adv.0 == router.0

-- whether a wanted LSA is at the slot that is noted of a key
abbrev pub is_wanted_by_key : Wanted → Slots → ℕ → KeyAt → Bool
is_wanted_by_key w d section noted = may_have w noted.key && passes (is_wanted w) (slot_at d (slot_of section noted.index))

-- the lesser of two indices, where there is a first
abbrev pub lesser : Option ℕ → ℕ → ℕ
lesser None second = second
lesser (Some first) second = min first second
