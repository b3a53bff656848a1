-- The keys that LSAs may have that are looked up by more than their keys.
use Rattle.std.proofs.Common.{◌≡◌, ℕ, ◌+◌, ◌-◌, ◌^◌, ◌<◌, ◌≤◌, Bool, true, false, ◌||◌, ◌==◌, cond, List, Some, None, refl, sym, ap, ◌∙◌, arith}
use Rattle.std.specs.Prelude.{bit_and}
use Rattle.std.proofs.lemmas.Bool.{and_parts, eqb-true}
use Rattle.std.proofs.lemmas.Nat.{and-not, and_comm, and_le_l, pow_pos}
use Rattle.lsa_codec.specs.LsTypes.{summary_lsa, external_lsa}
use Rattle.lsa_codec.specs.declared.address.Addr.{Addr}
use Rattle.lsa_codec.specs.declared.address.RouterId.{RouterId}
use Rattle.lsa_codec.specs.Fields.{kind_of, link_state_id_of, advertising_router_of}
use Rattle.lsa_codec.specs.Key.{key_of}
use Rattle.lsa_codec.specs.Prefix.{Net, mask_of_len}
use Rattle.lsa_codec.specs.Views.{net_of_lsa}
use Rattle.lsdb.specs.KeyRanges.{HaveKeysBetween}
use Rattle.lsdb.specs.PrefixSlots.{prefix_of}
use Rattle.lsdb.proofs.KeyLemmas.{between_fields}
use Rattle.edit_history.specs.Effect.{is_originated_for, is_prefix}
use Rattle.edit_history.specs.declared.lookup.Wanted.{Wanted}
use Rattle.edit_history.specs.declared.lookup.Wanted.TheVariants as wanted
use Rattle.edit_history.specs.steps.Plans.{is_wanted}
use Rattle.edit_history.specs.steps.Searching.{last_addr_of, may_have}

-- ---- addresses of a prefix

mask_short : (len : ℕ) → mask_of_len len < 2 ^ 32
mask_short len = omega (arith, pow_pos (32 - len))

-- an address is the sum of its part within a mask and its part outside it
addr_parts : (addr mask : ℕ) → addr < 2 ^ 32 → mask < 2 ^ 32 → addr ≤ bit_and addr mask + (2 ^ 32 - 1 - mask)
addr_parts addr mask lt short =
    omega (arith, and-not 32 mask addr short lt, and_le_l (2 ^ 32 - 1 - mask) addr, and_comm mask addr)

same_prefix : (net : Net) (b : Bool) (own : Net) → is_prefix net (cond b (Some own) None) ≡ true → (own.addr.0 ≡ net.addr.0) × (own.len ≡ net.len)
same_prefix net false own same = absurd cc
same_prefix net true own same =
    let parts = and_parts (own.addr.0 == net.addr.0) (own.len == net.len) same in
    (eqb-true _ _ parts.0, eqb-true _ _ parts.1)

-- the Link State ID of an LSA for a prefix is an address of it
record IsAddrOf (net : Net) (addr : ℕ) : Type 0 where
  above : net.addr.0 ≤ addr
  below : addr ≤ last_addr_of net

id_within : (net : Net) (lsa : List ℕ) → link_state_id_of lsa < 2 ^ 32 → is_prefix net (prefix_of lsa) ≡ true → IsAddrOf net (link_state_id_of lsa)
id_within net lsa lt same =
    let id : ℕ = link_state_id_of lsa in
    let parts = same_prefix net ((kind_of lsa == summary_lsa) || (kind_of lsa == external_lsa)) (net_of_lsa lsa) same in
    let masked : bit_and id (mask_of_len net.len) ≡ net.addr.0 = ap (λ len. bit_and id (mask_of_len len)) (sym parts.1) ∙ parts.0 in
    record {
      above = omega (arith, masked, and_le_l id (mask_of_len net.len));
      below = omega (arith, masked, addr_parts id (mask_of_len net.len) lt (mask_short net.len));
    }

-- ---- ranges of keys

pub keys_of_prefix : (kind : ℕ) (router : RouterId) (net : Net) (last : Addr) → last.0 ≡ last_addr_of net
    → HaveKeysBetween (λ lsa. is_originated_for kind router net lsa ≡ true) (record { kind = kind; id = net.addr; adv = router }) (record { kind = kind; id = last; adv = router })
keys_of_prefix kind router net last is lsa widths pass =
    let first = and_parts _ _ pass in
    let rest = and_parts _ _ first.1 in
    let kinds : kind_of lsa ≡ kind = eqb-true _ _ first.0 in
    let routers : advertising_router_of lsa ≡ router.0 = eqb-true _ _ rest.0 in
    let within = id_within net lsa widths.id rest.1 in
    between_fields (record { kind = kind; id = net.addr; adv = router }) (record { kind = kind; id = last; adv = router }) (key_of lsa)
    (omega arith) (omega arith) within.above (omega (arith, within.below, is)) (omega arith) (omega arith)

-- ---- by the key alone

pub has_marked_key : (w : Wanted) (lsa : List ℕ) → is_wanted w lsa ≡ true → may_have w (key_of lsa) ≡ true
has_marked_key (wanted.Network network) lsa pass = refl
has_marked_key (wanted.Summary router prefix) lsa pass = (and_parts _ _ (and_parts _ _ pass).1).0
has_marked_key (wanted.External router prefix) lsa pass = (and_parts _ _ (and_parts _ _ pass).1).0
