-- For callers: LSAs by their keys, and keys in a range.
use Rattle.std.proofs.Common.{◌≡◌, ◌≢◌, ◌≤◌, ◌-◌, ◌^◌, ℕ, true, false, cond, eqb, List, refl, ap, ◌∙◌, arith, ⊎_elim}
use Rattle.std.specs.Ordering.{is_le, nat_cmp, ordering_then}
use Rattle.std.specs.declared.cmp.Ordering.{Ordering}
use Rattle.std.specs.declared.cmp.Ordering.TheVariants.{Less, Equal, Greater}
use Rattle.std.proofs.lemmas.Bool.{and_parts, and_from, cases_lt, eqb-true, eq-eqb, false_from_ne_true, le-ltb, lt-ltb}
use Rattle.lsa_codec.specs.declared.address.Addr.{Addr}
use Rattle.lsa_codec.specs.declared.key.Key.{Key}
use Rattle.lsa_codec.specs.Fields.{kind_of, link_state_id_of}
use Rattle.lsa_codec.specs.Key.{key_of}
use Rattle.lsa_codec.specs.Order.{key_cmp}
use Rattle.lsdb.specs.KeyRanges.{HaveKeysBetween, is_between}
use Rattle.lsdb.specs.Lists.{same_key, has_key, is_network}

key_from : (k l i j a b : ℕ) → k ≡ l → i ≡ j → a ≡ b → let p : Key =
    record { kind = k; id = record { 0 = i }; adv = record { 0 = a } } in
    let q : Key = record { kind = l; id = record { 0 = j }; adv = record { 0 = b } } in p ≡ q
key_from k l i j a b e f g = rw (e, f, g) refl

pub same_key_true : (a b : Key) → same_key a b ≡ true → a ≡ b
same_key_true a b e =
    let p = and_parts _ _ e in
    let q = and_parts _ _ p.1 in
    key_from a.kind b.kind a.id.0 b.id.0 a.adv.0 b.adv.0 (eqb-true _ _ p.0) (eqb-true _ _ q.0) (eqb-true _ _ q.1)

pub same_key_from : (a b : Key) → a ≡ b → same_key a b ≡ true
same_key_from a b e =
    and_from _ _ (eq-eqb _ _ (ap (λ (k : Key). k.kind) e))
    (and_from _ _ (eq-eqb _ _ (ap (λ (k : Key). k.id.0) e)) (eq-eqb _ _ (ap (λ (k : Key). k.adv.0) e)))

-- an LSA of another key
pub other_key : (key : Key) (lsa : List ℕ) → key_of lsa ≢ key → has_key key lsa ≡ false
other_key key lsa apart = false_from_ne_true _ (λ e. apart (same_key_true (key_of lsa) key e))

-- an LSA has its own key
pub own_key : (key : Key) (lsa : List ℕ) → key_of lsa ≡ key → has_key key lsa ≡ true
own_key key lsa same = same_key_from (key_of lsa) key same

-- ---- keys in a range

upto_then : (x y : ℕ) (r : Ordering) → x ≤ y → is_le r ≡ true → is_le (ordering_then (nat_cmp x y) r) ≡ true
upto_then x y r le more = ⊎_elim
    (λ less. ap (λ b. is_le (ordering_then (cond b Less (cond (eqb x y) Equal Greater)) r)) (lt-ltb x y less))
    (λ ge.
    let same : x ≡ y = omega arith in
    ap (λ b. is_le (ordering_then (cond b Less (cond (eqb x y) Equal Greater)) r)) (le-ltb x y ge)
    ∙ ap (λ b. is_le (ordering_then (cond b Equal Greater) r)) (eq-eqb x y same) ∙ more)
    (cases_lt x y)

upto_last : (x y : ℕ) → x ≤ y → is_le (nat_cmp x y) ≡ true
upto_last x y le = ⊎_elim
    (λ less. ap (λ b. is_le (cond b Less (cond (eqb x y) Equal Greater))) (lt-ltb x y less))
    (λ ge.
    let same : x ≡ y = omega arith in
    ap (λ b. is_le (cond b Less (cond (eqb x y) Equal Greater))) (le-ltb x y ge) ∙ ap (λ b. is_le (cond b Equal Greater)) (eq-eqb x y same))
    (cases_lt x y)

pub upto : (a b : Key) → a.kind ≤ b.kind → a.id.0 ≤ b.id.0 → a.adv.0 ≤ b.adv.0 → is_le (key_cmp a b) ≡ true
upto a b kinds ids advs =
    upto_then a.kind b.kind (ordering_then (nat_cmp a.id.0 b.id.0) (nat_cmp a.adv.0 b.adv.0)) kinds
    (upto_then a.id.0 b.id.0 (nat_cmp a.adv.0 b.adv.0) ids (upto_last a.adv.0 b.adv.0 advs))

-- a key is between two others, where each of its fields is
pub between_fields : (low high key : Key) → low.kind ≤ key.kind → key.kind ≤ high.kind → low.id.0 ≤ key.id.0 → key.id.0 ≤ high.id.0
    → low.adv.0 ≤ key.adv.0 → key.adv.0 ≤ high.adv.0 → is_between low high key ≡ true
between_fields low high key k l i j a b = and_from _ _ (upto low key k i a) (upto key high l j b)

-- any router may have originated the network-LSAs of a network
pub network_keys_cover : (network : Addr) → let low : Key = record { kind = 2; id = network; adv = record { 0 = 0 } } in
    let high : Key = record { kind = 2; id = network; adv = record { 0 = 2 ^ 32 - 1 } } in HaveKeysBetween (λ lsa. is_network network lsa ≡ true) low high
network_keys_cover network lsa widths is =
    let parts = and_parts _ _ is in
    let kinds : kind_of lsa ≡ 2 = eqb-true _ _ parts.0 in
    let ids : link_state_id_of lsa ≡ network.0 = eqb-true _ _ parts.1 in
    between_fields (record { kind = 2; id = network; adv = record { 0 = 0 } }) (record { kind = 2; id = network; adv = record { 0 = 2 ^ 32 - 1 } }) (key_of lsa)
    (omega arith) (omega arith) (omega arith) (omega arith) (omega arith) (omega (arith, widths.adv))
