-- Blanks, dots, and what follows the front of a text.
use Rattle.std.specs.Prelude.{ℕ, ◌==◌, Bool, List, length, take, drop, Option, Some, None, bytes_eq, if◌then◌else◌}
use Rattle.std.specs.List.{position_or_len}
use Rattle.text_words.specs.declared.blanks.Blanks.TheVariants.{InText}
use Rattle.text_words.specs.Words as any

-- a line feed
abbrev pub line_feed : ℕ
line_feed = 0x0a

-- a space, a tab, a line feed or a carriage return
abbrev pub is_blank : ℕ → Bool
is_blank byte = any.is_blank InText byte

abbrev pub is_dot : ℕ → Bool
is_dot byte = byte == 0x2e

-- what follows the front, where the text begins with it
abbrev pub after : List ℕ → List ℕ → Option (List ℕ)
after front text = if bytes_eq (take (length front) text) front then Some (drop (length front) text) else None

-- what stands before the first blank: perhaps nothing, perhaps all
abbrev pub first_word : List ℕ → List ℕ
first_word text = take (position_or_len is_blank text) text

-- the first blank, and what follows it
abbrev pub after_word : List ℕ → List ℕ
after_word text = drop (position_or_len is_blank text) text
