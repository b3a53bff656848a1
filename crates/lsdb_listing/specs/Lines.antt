-- The lines of a text, each as its words.
use Rattle.std.specs.Prelude.{ℕ, ◌==◌, Bool, List, map}
use Rattle.std.specs.List.{slice_split}
use Rattle.frr_text.specs.Words.{Word, words}

-- a line feed
abbrev pub is_line_feed : ℕ → Bool
is_line_feed byte = byte == 0x0a

abbrev pub Line : Type 0
Line = List Word

-- the words of each line, from the first line to the last
unfoldable pub lines : List ℕ → List Line
lines text = map words (slice_split is_line_feed text)
