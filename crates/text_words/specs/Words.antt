-- The words of a text.
use Rattle.std.specs.Prelude.{ℕ, ◌==◌, ◌<◌, ◌≡◌, ◌||◌, Bool, false, All, List, [], ◌∷◌, length, nat_lt, filter, bytes_eq, Option, Some, None, if◌then◌else◌}
use Rattle.std.specs.List.{slice_split}
use Rattle.text_words.specs.declared.blanks.Blanks.{Blanks}
use Rattle.text_words.specs.declared.blanks.Blanks.TheVariants.{InLine, InText}

abbrev pub Word : Type 0
Word = List ℕ

-- a space, a tab, or a carriage return; between the words of a text of several lines also a line feed
abbrev pub is_blank : Blanks → ℕ → Bool
is_blank InLine byte = byte == 0x20 || byte == 0x09 || byte == 0x0d
is_blank InText byte = byte == 0x20 || byte == 0x09 || byte == 0x0a || byte == 0x0d

abbrev pub is_nonempty : Word → Bool
is_nonempty word = nat_lt 0 (length word)

-- the words of a text, from left to right: its longest runs of bytes that are not blanks
abbrev pub words : Blanks → List ℕ → List Word
words blanks text = filter is_nonempty (slice_split (is_blank blanks) text)

-- at least one byte, and no blank among them
pub record IsWord (blanks : Blanks) (word : Word) : Type 0 where
  pub some : 0 < length word
  pub no_blank : All (λ byte. is_blank blanks byte ≡ false) word

-- the words after these, where the text begins with these
unfoldable pub after_words : List Word → List Word → Option (List Word)
after_words [] text = Some text
after_words (wanted ∷ front) [] = None
after_words (wanted ∷ front) (word ∷ text) = if bytes_eq word wanted then after_words front text else None
