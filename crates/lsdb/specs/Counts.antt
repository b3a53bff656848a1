-- What LSAs count: how many they are, and what virtual links leave in them (RFC 2328, 15 and A.4.2).
use Rattle.std.specs.Prelude.{ℕ, ◌*◌, ◌≤◌, Bool, true, false, ◌&&◌, ◌==◌, not, bit_and, if◌then◌else◌, List, length}
use Rattle.std.specs.List.{count_by, sum_by}
use Rattle.lsa_codec.specs.Accepted.{longest_lsa}
use Rattle.lsa_codec.specs.declared.link.LinkKind.{LinkKind}
use Rattle.lsa_codec.specs.declared.link.LinkKind.TheVariants.{PointToPoint, Transit, Stub, Virtual, Other}
use Rattle.lsa_codec.specs.LsTypes.{router_lsa}
use Rattle.lsa_codec.specs.Fields.{kind_of, byte_at}
use Rattle.lsa_codec.specs.Links.{links_of}
use Rattle.lsdb.specs.declared.counts.LsaCounts.{LsaCounts}

-- bit V, of an endpoint of virtual links
abbrev pub bit_v : ℕ
bit_v = 4

-- a router-LSA with bit V
abbrev pub has_bit_v : List ℕ → Bool
has_bit_v lsa = (kind_of lsa == router_lsa) && not (bit_and (byte_at 20 lsa) bit_v == 0)

-- a link of type 4
abbrev pub is_virtual : LinkKind → Bool
is_virtual PointToPoint = false
is_virtual Transit = false
is_virtual Stub = false
is_virtual Virtual = true
is_virtual (Other code) = false

-- how many virtual links a router-LSA describes; other LSAs describe none
abbrev pub virtual_link_count : List ℕ → ℕ
virtual_link_count lsa = if kind_of lsa == router_lsa then count_by (λ link. is_virtual link.kind) (links_of lsa) else 0

-- the counts of LSAs, an LSA at any age
abbrev pub counts_of : List (List ℕ) → LsaCounts
counts_of lsas = record {
  lsas = length lsas;
  virtual_ends = count_by has_bit_v lsas;
  virtual_links = sum_by virtual_link_count lsas;
}

-- no more than at most this number of LSAs count, of which none is longer than an LSA may be
pub record AreFew (most : ℕ) (counts : LsaCounts) : Type 0 where
  pub lsas : counts.lsas ≤ most
  pub virtual_ends : counts.virtual_ends ≤ most
  pub virtual_links : counts.virtual_links ≤ most * longest_lsa
