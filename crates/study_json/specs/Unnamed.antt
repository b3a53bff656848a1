-- Texts in documents: routers have no names there.
use Rattle.std.specs.Prelude.{ℕ, Option, None}
use Rattle.text_words.specs.Words.{Word}

abbrev pub no_names : ℕ → Option Word
no_names router = None
