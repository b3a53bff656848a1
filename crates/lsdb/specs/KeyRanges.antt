-- The keys of a section's LSAs in order, and those from one key to another.
use Rattle.std.specs.Prelude.{◌≡◌, ◌^◌, ◌-◌, ◌<◌, ◌&&◌, ℕ, Bool, true, List, Some, All, Contains}
use Rattle.std.specs.List.Sorted.{IsStrictlySortedBy}
use Rattle.std.specs.Ordering.{is_le, nat_cmp, ordering_then}
use Rattle.std.specs.declared.cmp.Ordering.{Ordering}
use Rattle.lsa_codec.specs.declared.address.Addr.{Addr}
use Rattle.lsa_codec.specs.declared.key.Key.{Key}
use Rattle.lsa_codec.specs.Fields.{kind_of, link_state_id_of, advertising_router_of}
use Rattle.lsa_codec.specs.Key.{key_of}
use Rattle.lsa_codec.specs.Order.{key_cmp}
use Rattle.lsdb.specs.declared.slot_index.SlotOf.{SlotOf}
use Rattle.lsdb.specs.Slots.{Slot, item_at}

-- a slot of a key
abbrev pub KeyAt : Type 0
KeyAt = SlotOf Key

-- by key, and then by index
abbrev pub noted_cmp : KeyAt → KeyAt → Ordering
noted_cmp a b = ordering_then (key_cmp a.key b.key) (nat_cmp a.index b.index)

-- from one key to another, both included
abbrev pub is_between : Key → Key → Key → Bool
is_between low high key = is_le (key_cmp low key) && is_le (key_cmp key high)

-- the fields of an LSA that make its key have 8, 32 and 32 bits (RFC 2328, A.4.1)
pub record HaveWidths (lsa : List ℕ) : Type 0 where
  pub kind : kind_of lsa < 2 ^ 8
  pub id : link_state_id_of lsa < 2 ^ 32
  pub adv : advertising_router_of lsa < 2 ^ 32

-- each LSA of which something holds has a key from one to another
abbrev pub HaveKeysBetween : (List ℕ → Type 0) → Key → Key → Type 0
HaveKeysBetween Holds low high = (lsa : List ℕ) → HaveWidths lsa → Holds lsa → is_between low high (key_of lsa) ≡ true

-- the least and the greatest key of a network-LSA of a network (RFC 2328, 12.1.4): its Link State ID is the address of the Designated Router
abbrev pub keys_of_network : Addr → Key × Key
keys_of_network network = (record { kind = 2; id = network; adv = record { 0 = 0 } }, record { kind = 2; id = network; adv = record { 0 = 2 ^ 32 - 1 } })

-- keys of a section from one key to another, in order and each once with one index, among them that of each LSA there, with the index of its slot
pub record AreKeysBetween (slots : List Slot) (low high : Key) (keys : List KeyAt) : Type 0 where
  pub rising : IsStrictlySortedBy noted_cmp keys
  pub within : All (λ noted. is_between low high noted.key ≡ true) keys
  pub whole : (index : ℕ) (lsa : List ℕ) → item_at slots index ≡ Some (Some lsa) → is_between low high (key_of lsa) ≡ true
      → Contains keys (record { key = key_of lsa; index = index })
  pub widths : (index : ℕ) (lsa : List ℕ) → item_at slots index ≡ Some (Some lsa) → HaveWidths lsa
