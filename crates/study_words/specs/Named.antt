-- The one of several things whose text a word is.
use Rattle.std.specs.Prelude.{ℕ, List, [], ◌∷◌, Option, Some, None, bytes_eq, if◌then◌else◌}

-- the first whose text is the word
unfoldable pub named : {E : Type 0} → (E → List ℕ) → List E → List ℕ → Option E
named text [] word = None
named text (e ∷ es) word = if bytes_eq word (text e) then Some e else named text es word
