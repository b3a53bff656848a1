-- What is read and written of a whole text, where the bytes of the reader and the writer are known.
use Rattle.std.specs.Prelude.{◌≡◌, ℕ, ◌<◌, ◌≤◌, List, ◌++◌, length, Option, IfSome}
use Rattle.std.specs.Io.{StartsWith}
use Rattle.std.specs.Io.KnownBytes.{Appends, Consumes}

-- the bytes are all the known ones
abbrev pub IsAll : Option (List ℕ) → List ℕ → Type 0
IsAll known bytes = IfSome known (λ all. bytes ≡ all)

-- more bytes are known than the limit
abbrev pub IsLonger : Option (List ℕ) → ℕ → Type 0
IsLonger known limit = IfSome known (λ all. limit < length all)

-- the known bytes lost at most n at their front
abbrev pub ConsumesAtMost : Option (List ℕ) → Option (List ℕ) → ℕ → Type 0
ConsumesAtMost old new n = (taken : List ℕ) × (Consumes old new taken × (length taken ≤ n))

-- the known bytes grew by a prefix of the text
abbrev pub AppendsPrefix : Option (List ℕ) → Option (List ℕ) → List ℕ → Type 0
AppendsPrefix old new text = (part : List ℕ) × (StartsWith text part × Appends old new part)

-- the known bytes lost some at their front, which stand after those that were there before
abbrev pub ReadsAfter : Option (List ℕ) → Option (List ℕ) → List ℕ → List ℕ → Type 0
ReadsAfter old new before after = (taken : List ℕ) × (Consumes old new taken × (after ≡ before ++ taken))
