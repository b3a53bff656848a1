-- The words of a text.
use Rattle.std.specs.Prelude.{ℕ, Bool, List}
use Rattle.text_words.specs.declared.blanks.Blanks.TheVariants.{InText}
use Rattle.text_words.specs.Words as any
pub use Rattle.text_words.specs.Words.{Word}

-- a space, a tab, a line feed or a carriage return
abbrev pub is_blank : ℕ → Bool
is_blank byte = any.is_blank InText byte

-- the words of a text, from left to right: its longest runs of bytes that are not blanks
unfoldable pub words : List ℕ → List Word
words text = any.words InText text
