-- What a file took of a text.
use Rattle.std.specs.Prelude.{ℕ, List, Option}
use Rattle.std.specs.Io.KnownBytes.{Appends}

-- one of the files took the whole text, and nothing else
abbrev pub IsTaken : {F : Type 0} → (F → Option (List ℕ)) → List ℕ → Type 0
IsTaken {F} contents text = (before : F) × ((after : F) × Appends (contents before) (contents after) text)
