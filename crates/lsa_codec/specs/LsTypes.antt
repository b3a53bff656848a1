-- LS types: what kind an LSA is of (RFC 2328, 12.1.3, A.4.1).
use Rattle.std.specs.Prelude.{ℕ}

-- router-LSAs (A.4.2)
abbrev pub router_lsa : ℕ
router_lsa = 1

-- network-LSAs (A.4.3)
abbrev pub network_lsa : ℕ
network_lsa = 2

-- summary-LSAs for networks (A.4.4)
abbrev pub summary_lsa : ℕ
summary_lsa = 3

-- summary-LSAs for AS boundary routers (A.4.4)
abbrev pub asbr_summary_lsa : ℕ
asbr_summary_lsa = 4

-- AS-external-LSAs (A.4.5)
abbrev pub external_lsa : ℕ
external_lsa = 5

-- opaque LSAs of AS scope (RFC 5250)
abbrev pub as_opaque_lsa : ℕ
as_opaque_lsa = 11
