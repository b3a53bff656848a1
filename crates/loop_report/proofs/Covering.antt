-- The addresses that a prefix covers, as numbers.
use Rattle.std.proofs.Common.{◌≡◌, ℕ, ◌+◌, ◌-◌, ◌*◌, ◌/◌, ◌^◌, ◌<◌, ◌≤◌, sym, ap, ◌∙◌, arith}
use Rattle.std.specs.Prelude.{bit_and}
use Rattle.std.proofs.lemmas.Bool.{eqb-true}
use Rattle.std.proofs.lemmas.Nat.{div-add-mod', div-mul-add, pow_pos}
use Rattle.std.proofs.lemmas.Nat.Bits.{and_high_mask, and_high_mask_twice}
use Rattle.lsa_codec.specs.Prefix.{IsNet, Net, mask_of_len, masked}
use Rattle.lsa_codec.specs.declared.address.Addr.{Addr}
use Rattle.loop_report.specs.steps.Ends.{end_of}

-- a multiple of p, and the numbers from it on that are fewer than p after it
low_bounds : (n p : ℕ) → 0 < p → (n / p * p ≤ n) × (n < n / p * p + p)
low_bounds n p pos = (omega (arith, div-add-mod' n p), omega (arith, div-add-mod' n p))

same_low : (a b p : ℕ) → 0 < p → b / p * p ≤ a → a < b / p * p + p → a / p * p ≡ b / p * p
same_low a b p pos from below =
    let rest : ℕ = a - b / p * p in
    let parts : a ≡ b / p * p + rest = omega arith in
    ap (λ (n : ℕ). n * p) (ap (λ (n : ℕ). n / p) parts ∙ div-mul-add (b / p) p rest (omega arith))

masked_low : (address : Addr) (len : ℕ) → address.0 < 2 ^ 32 → bit_and address.0 (mask_of_len len) ≡ address.0 / 2 ^ (32 - len) * 2 ^ (32 - len)
masked_low address len small = and_high_mask 32 (32 - len) (omega arith) address.0 small

-- a prefix by the number of its address
abbrev net_at : ℕ → ℕ → Net
net_at len n = record { addr = record { 0 = n }; len = len }

pub covers_between : (address : Addr) (net : Net) → address.0 < 2 ^ 32 → masked address net.len ≡ net → (net.addr.0 ≤ address.0) × (address.0 < end_of net)
covers_between address net small is =
    let low : address.0 / 2 ^ (32 - net.len) * 2 ^ (32 - net.len) ≡ net.addr.0 =
    sym (masked_low address net.len small) ∙ ap (λ (n : Net). n.addr.0) is in
    let within = low_bounds address.0 (2 ^ (32 - net.len)) (pow_pos (32 - net.len)) in
    (omega (arith, within.0, low), omega (arith, within.1, low))

-- what lies between an address that the prefix covers and its end is covered as well
pub covers_more : (address other : Addr) (net : Net) → address.0 < 2 ^ 32 → other.0 < 2 ^ 32 → masked address net.len ≡ net
    → net.addr.0 ≤ other.0 → other.0 < end_of net → masked other net.len ≡ net
covers_more address other net small other_small is from below =
    let p : ℕ = 2 ^ (32 - net.len) in
    let low : address.0 / p * p ≡ net.addr.0 = sym (masked_low address net.len small) ∙ ap (λ (n : Net). n.addr.0) is in
    let same : other.0 / p * p ≡ address.0 / p * p =
    same_low other.0 address.0 p (pow_pos (32 - net.len)) (omega (arith, low)) (omega (arith, low)) in
    ap (net_at net.len) (masked_low other net.len other_small ∙ same ∙ sym (masked_low address net.len small)) ∙ is

-- a prefix covers its address
pub covers_itself : (net : Net) → IsNet net → masked net.addr net.len ≡ net
covers_itself net is = ap (net_at net.len) (eqb-true (bit_and net.addr.0 (mask_of_len net.len)) net.addr.0 is.masked)

-- addresses in one prefix are in one shorter prefix
pub shorter_same : (a b : Addr) (len shorter : ℕ) → shorter ≤ len → len ≤ 32 → masked a len ≡ masked b len → masked a shorter ≡ masked b shorter
shorter_same a b len shorter le short same =
    let twice : (n : ℕ) → bit_and (bit_and n (mask_of_len len)) (mask_of_len shorter) ≡ bit_and n (mask_of_len shorter) =
    λ n. and_high_mask_twice 32 (32 - shorter) (omega arith) n (32 - len) (omega arith) in
    ap (net_at shorter)
    (sym (twice a.0) ∙ ap (λ (net : Net). bit_and net.addr.0 (mask_of_len shorter)) same ∙ twice b.0)
