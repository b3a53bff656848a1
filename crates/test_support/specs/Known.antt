-- The databases that several crates are tested with.
use Rattle.std.specs.Prelude.{ℕ, List, [], ◌∷◌}
use Rattle.test_support.specs.declared.known.TheConstants.{R1, R3, R4, MASK_16}
use Rattle.test_support.specs.Links.{link_of}
use Rattle.test_support.specs.Lsas.{no_lsas, with_router, with_network}
use Rattle.test_support.specs.Dumps.{dump_of_area}

-- the address of the Designated Router of the network that joins three routers
abbrev pub joining_network : ℕ
joining_network = 0x0a050003

-- three routers that a network joins, and a link between the first and the third
unfoldable pub network_of_three : List ℕ
network_of_three =
    dump_of_area
    (with_network 1 joining_network MASK_16 R3 (R1 ∷ R3 ∷ R4 ∷ [])
    (with_router 1 R4 0 (link_of 1 R1 0x0a000004 5 ∷ link_of 2 joining_network 0x0a050004 5 ∷ [])
    (with_router 1 R3 0 (link_of 2 joining_network 0x0a050003 10 ∷ [])
    (with_router 1 R1 0 (link_of 2 joining_network 0x0a050001 10 ∷ link_of 1 R4 0x0a000001 5 ∷ []) no_lsas))))
