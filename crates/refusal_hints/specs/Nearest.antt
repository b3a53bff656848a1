-- Of several addresses the one that is most like another, by their dotted forms.
use Rattle.std.specs.Prelude.{ℕ, List, ◌++◌, map, codes, Option, None, Some}
use Rattle.std.specs.List.{slice_get}
use Rattle.std.specs.Option.{option_or}
use Rattle.lsa_codec.specs.Spelling.{address_text}
use Rattle.text_words.specs.Words.{Word}
use Rattle.study_hints.specs.Near.{near}

-- the word that is most like another, however little
abbrev pub nearest : Word → List Word → Option Word
nearest word those = option_or (near word those) (slice_get those 0)

-- ` has WORD`; where there is none, another text
abbrev pub has_or : List ℕ → Option Word → List ℕ
has_or otherwise None = otherwise
has_or otherwise (Some word) = codes " has " ++ word

-- the same of the address that is most like another
abbrev pub has_nearest : List ℕ → ℕ → List ℕ → List ℕ
has_nearest otherwise address those = has_or otherwise (nearest (address_text address) (map address_text those))
