-- The lines of a comparison as they are added.
use Rattle.std.specs.Prelude.{◌≡◌, ℕ, Bool, true, false, List, ◌++◌, length, Option, None, Some, codes}
use Rattle.std.specs.String.{string_bytes}
use Rattle.table_report.specs.Texts.{lines_text}
use Rattle.table_report.specs.declared.compare.ChangedLines.{ChangedLines}

-- a text after which a line with its end was added, if there is one, and whether it was
abbrev pub AddsLine : Option (List ℕ) → List ℕ → Bool → List ℕ → Type 0
AddsLine None old added new = (added ≡ false) × (new ≡ old)
AddsLine (Some line) old added new = (added ≡ true) × (new ≡ old ++ (line ++ codes "\n"))

-- the lines with their ends, and how many they are
abbrev pub AreChangedLines : {A : Type 0} → List (List ℕ) → ChangedLines A → Type 0
AreChangedLines lines changes = (string_bytes changes.lines ≡ lines_text lines) × (changes.count ≡ length lines)
