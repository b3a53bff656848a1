-- The options of an LSA (RFC 2328, A.2; RFC 5250, A.1), as FRR prints them: `*|O|DC|EA|N/P|MC|E|MT`, with a dash for each bit
-- that is 0. The star stands for the highest bit, set or not.
use Rattle.std.specs.Prelude.{ℕ, ◌+◌, ◌==◌, ◌&&◌, codes, List, [], ◌∷◌, length, take, drop, Option, Some, None, if◌then◌else◌}
use Rattle.std.specs.Cmp.Lexicographic.{pointwise}
use Rattle.frr_text.specs.Rules.{◌>>=◌}

-- what follows these bytes, where the text begins with them
abbrev pub after : List ℕ → List ℕ → Option (List ℕ)
after front text = if pointwise (λ a b. a == b) (take (length front) text) front then Some (drop (length front) text) else None

abbrev pub mark_or : ℕ → List ℕ → Option (List ℕ) → Option (ℕ × List ℕ)
mark_or bit text (Some rest) = Some (bit, rest)
mark_or bit text None = after (codes "-|") text >>= (λ rest. Some (0, rest))

-- this bit by its letters, or 0 by a dash
unfoldable pub mark_in : ℕ → List ℕ → List ℕ → Option (ℕ × List ℕ)
mark_in bit letters text = mark_or bit text (after letters text)

-- the lowest bit: `MT` (77 and 84) or a dash (45)
abbrev pub last_mark_in : List ℕ → Option ℕ
last_mark_in (first ∷ []) = if first == 45 then Some 0 else None
last_mark_in (first ∷ second ∷ []) = if first == 77 && second == 84 then Some 1 else None
last_mark_in _ = None

unfoldable pub options_of : List ℕ → Option ℕ
options_of text = do
  star ← after (codes "*|") text
  opaque ← mark_in 0x40 (codes "O|") star
  demand ← mark_in 0x20 (codes "DC|") opaque.1
  attributes ← mark_in 0x10 (codes "EA|") demand.1
  nssa ← mark_in 0x08 (codes "N/P|") attributes.1
  multicast ← mark_in 0x04 (codes "MC|") nssa.1
  external ← mark_in 0x02 (codes "E|") multicast.1
  topology ← last_mark_in external.1
  Some (opaque.0 + demand.0 + attributes.0 + nssa.0 + multicast.0 + external.0 + topology)
