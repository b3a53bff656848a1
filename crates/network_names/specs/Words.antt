-- The words of a line.
use Rattle.std.specs.Prelude.{ℕ, List}
use Rattle.text_words.specs.declared.blanks.Blanks.TheVariants.{InLine}
use Rattle.text_words.specs.Words as any
pub use Rattle.text_words.specs.Words.{Word}

-- the words of a line, from left to right: its maximal runs of bytes other than spaces, tabs and carriage returns
abbrev pub words : List ℕ → List Word
words line = any.words InLine line
