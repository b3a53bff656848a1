-- How many routers a network-LSA lists.
use Rattle.std.proofs.Common.{◌≡◌, ℕ, zero, suc, ◌+◌, ◌-◌, ◌/◌, List, length, refl, ap}
use Rattle.lsa_codec.specs.Views.{attached_of, routers_from}

count : (n offset : ℕ) (lsa : List ℕ) → length (routers_from n offset lsa) ≡ n
unfolding routers_from
count zero offset lsa = refl
count (suc n) offset lsa = ap suc (count n (offset + 4) lsa)

pub members : (lsa : List ℕ) → length (attached_of lsa) ≡ (length lsa - 24) / 4
members lsa = count ((length lsa - 24) / 4) 24 lsa
