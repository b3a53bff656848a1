-- The lines of studies, each with its place.
use Rattle.std.specs.Prelude.{ℕ, ◌+◌, ◌==◌, List, [], ◌∷◌, ◌++◌, codes, decimal}
use Rattle.std.specs.List.{flat_map, slice_split}
use Rattle.whole_study.specs.Given.{NamedText}

-- a line: the name of its study, its number, and its bytes
pub record Line : Type 0 where
  pub file : List ℕ
  pub number : ℕ
  pub text : List ℕ

-- lines of one study, the first of which has this number
abbrev pub numbered : List ℕ → ℕ → List (List ℕ) → List Line
numbered file number [] = []
numbered file number (text ∷ texts) = record { file = file; number = number; text = text } ∷ numbered file (number + 1) texts

-- the lines of a study, which end at line feeds (10) and are counted from 1
abbrev pub study_lines : NamedText → List Line
study_lines study = numbered study.name 1 (slice_split (λ byte. byte == 10) study.text)

-- the lines of all studies, in order
abbrev pub all_lines : List NamedText → List Line
all_lines studies = flat_map study_lines studies

-- the place of a line, before what is said of it: `FILE:LINE: `
abbrev pub place_text : Line → List ℕ
place_text line = line.file ++ codes ":" ++ decimal line.number ++ codes ": "
