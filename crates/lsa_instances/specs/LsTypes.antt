-- LS types besides those that the planner reads.
use Rattle.std.specs.Prelude.{ℕ}

-- NSSA-LSAs (RFC 3101, 2.2)
abbrev pub nssa_lsa : ℕ
nssa_lsa = 7

-- opaque LSAs of link scope (RFC 5250, 3)
abbrev pub link_opaque_lsa : ℕ
link_opaque_lsa = 9

-- opaque LSAs of area scope (RFC 5250, 3)
abbrev pub area_opaque_lsa : ℕ
area_opaque_lsa = 10
