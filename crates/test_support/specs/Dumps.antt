-- Dumps of link state databases, and saved sessions.
use Rattle.std.specs.Prelude.{ℕ, min, List, [], ◌∷◌, ◌++◌, length, drop}
use Rattle.std.specs.Int.{w16, w32, to_be_bytes}
use Rattle.std.specs.List.{flat_map}
use Rattle.test_support.specs.Lsas.{Lsas, no_lsas}

-- the number of LSAs, and the LSAs
abbrev pub counted_bytes : Lsas → List ℕ
counted_bytes lsas = to_be_bytes w16 lsas.count ++ lsas.bytes

-- Area ID, not a stub area, LSAs
abbrev pub area_bytes : ℕ × Lsas → List ℕ
area_bytes area = to_be_bytes w32 area.0 ++ (0 ∷ []) ++ counted_bytes area.1

-- "OSWP", version 1, number of areas, areas, LSAs of AS scope
unfoldable pub dump_bytes : List (ℕ × Lsas) → Lsas → List ℕ
dump_bytes areas as_lsas =
    (0x4f ∷ 0x53 ∷ 0x57 ∷ 0x50 ∷ 1 ∷ min (length areas) 255 ∷ []) ++ flat_map area_bytes areas ++ counted_bytes as_lsas

-- the dump of area 0.0.0.0 alone
abbrev pub dump_of_area : Lsas → List ℕ
dump_of_area lsas = dump_bytes ((0, lsas) ∷ []) no_lsas

-- a saved session: "OSWP", version 2, the rest of a dump, a history
abbrev pub session_bytes : List ℕ → List ℕ → List ℕ
session_bytes dump history = (0x4f ∷ 0x53 ∷ 0x57 ∷ 0x50 ∷ 2 ∷ []) ++ drop 5 dump ++ history
