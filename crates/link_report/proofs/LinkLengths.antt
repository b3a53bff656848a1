-- How many links a router-LSA has.
use Rattle.std.proofs.Common.{◌≡◌, ℕ, zero, suc, ◌+◌, List, length, refl, ap}
use Rattle.lsa_codec.specs.Links.{link_count, link_length, links_from, links_of}

from_length : (n offset : ℕ) (lsa : List ℕ) → length (links_from n offset lsa) ≡ n
unfolding links_from
from_length zero offset lsa = refl
from_length (suc n) offset lsa = ap suc (from_length n (offset + link_length offset lsa) lsa)

pub length-links_of : (lsa : List ℕ) → length (links_of lsa) ≡ link_count lsa
length-links_of lsa = from_length (link_count lsa) 24 lsa
