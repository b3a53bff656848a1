-- LSAs, and LSAs one after another.
use Rattle.std.specs.Prelude.{ℕ, ◌+◌, ◌%◌, ◌^◌, min, List, [], ◌∷◌, ◌++◌, length, drop}
use Rattle.std.specs.Int.{w16, w32, to_be_bytes}
use Rattle.std.specs.List.{flat_map}
use Rattle.test_support.specs.declared.link.RouterLink.{RouterLink}
use Rattle.test_support.specs.declared.lsa.Header.{Header}
use Rattle.test_support.specs.Links.{link_bytes}
use Rattle.test_support.specs.Fletcher.{checksum_of}

-- the bytes of an LSA with these in its checksum field: LS age, options, LS type, Link State ID, Advertising Router,
-- the first LS sequence number, LS checksum, length, and the body (RFC 2328, A.4.1)
unfoldable pub lsa_with_sums : Header → List ℕ → List ℕ → List ℕ
lsa_with_sums header sums body =
    to_be_bytes w16 header.age ++ (2 ∷ header.kind ∷ []) ++ to_be_bytes w32 header.id ++ to_be_bytes w32 header.router
    ++ (0x80 ∷ 0 ∷ 0 ∷ 1 ∷ []) ++ sums ++ to_be_bytes w16 (min (length body) 65515 + 20) ++ body

-- the bytes of an LSA with the checksum of all of it but its LS age
unfoldable pub lsa_bytes : Header → List ℕ → List ℕ
lsa_bytes header body = lsa_with_sums header (checksum_of (drop 2 (lsa_with_sums header (0 ∷ 0 ∷ []) body))) body

-- the header of a router-LSA, and that of a network-LSA
abbrev pub router_header : ℕ → ℕ → Header
router_header age router = record { age = age; kind = 1; id = router; router = router }

abbrev pub network_header : ℕ → ℕ → ℕ → Header
network_header age address router = record { age = age; kind = 2; id = address; router = router }

-- flags, number of links, links (A.4.2)
unfoldable pub router_body : ℕ → List RouterLink → List ℕ
router_body flags links =
    (flags ∷ 0 ∷ []) ++ to_be_bytes w16 (min (length links) 65535) ++ flat_map link_bytes links

-- mask, attached routers (A.4.3)
unfoldable pub network_body : ℕ → List ℕ → List ℕ
network_body mask attached = to_be_bytes w32 mask ++ flat_map (to_be_bytes w32) attached

-- LSAs one after another, and their number
pub record Lsas : Type 0 where
  pub bytes : List ℕ
  pub count : ℕ

abbrev pub no_lsas : Lsas
no_lsas = record { bytes = []; count = 0 }

-- one more LSA; 16 bits count them
abbrev pub with_bytes : List ℕ → Lsas → Lsas
with_bytes lsa lsas = record { bytes = lsas.bytes ++ lsa; count = (lsas.count + 1) % 2 ^ 16 }

abbrev pub with_lsa : Header → List ℕ → Lsas → Lsas
with_lsa header body lsas = with_bytes (lsa_bytes header body) lsas

abbrev pub with_router : ℕ → ℕ → ℕ → List RouterLink → Lsas → Lsas
with_router age router flags links lsas = with_lsa (router_header age router) (router_body flags links) lsas

abbrev pub with_network : ℕ → ℕ → ℕ → ℕ → List ℕ → Lsas → Lsas
with_network age address mask router attached lsas =
    with_lsa (network_header age address router) (network_body mask attached) lsas
