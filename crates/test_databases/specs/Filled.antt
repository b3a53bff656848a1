-- Dumps that are filled with opaque LSAs (RFC 5250).
use Rattle.std.specs.Prelude.{ℕ, zero, suc, ◌+◌, ◌-◌, [], ◌∷◌, List}
use Rattle.test_support.specs.declared.known.TheConstants.{R1, R2}
use Rattle.test_support.specs.declared.lsa.Header.{Header}
use Rattle.test_support.specs.Links.{link_of}
use Rattle.test_support.specs.Lsas.{Lsas, no_lsas, with_lsa, with_router}
use Rattle.test_support.specs.Dumps.{dump_of_area, dump_bytes}

-- an opaque LSA of 1.1.1.1 without a body, of this LS type: its Opaque Type is 4, its Opaque ID a number
abbrev pub opaque_header : ℕ → ℕ → Header
opaque_header kind number = record { age = 1; kind = kind; id = 0x04000000 + number; router = R1 }

-- LSAs with n more opaque LSAs, numbered from 0
unfoldable pub with_opaque : ℕ → ℕ → Lsas → Lsas
with_opaque kind zero lsas = lsas
with_opaque kind (suc n) lsas = with_lsa (opaque_header kind n) [] (with_opaque kind n lsas)

-- the router-LSAs of 1.1.1.1 and 2.2.2.2, which a link of cost 10 joins
abbrev pub two_routers : Lsas
two_routers =
    with_router 1 R2 0 (link_of 1 R1 0x0a000002 10 ∷ [])
    (with_router 1 R1 0 (link_of 1 R2 0x0a000001 10 ∷ []) no_lsas)

-- area 0.0.0.0 with this number of LSAs: those of the two routers, then opaque LSAs of area scope
-- (type 10)
abbrev pub area_bytes : ℕ → List ℕ
area_bytes lsas = dump_of_area (with_opaque 10 (lsas - 2) two_routers)

-- area 0.0.0.0 of the two routers, and this number of opaque LSAs of AS scope (type 11)
abbrev pub as_list_bytes : ℕ → List ℕ
as_list_bytes lsas = dump_bytes ((0, two_routers) ∷ []) (with_opaque 11 lsas no_lsas)
