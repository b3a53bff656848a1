-- Rules: each reads something from the front of a text, and answers the words after it.
use Rattle.std.specs.Prelude.{ℕ, zero, suc, List, [], ◌∷◌, Option, Some, None}
pub use Rattle.text_words.specs.Options.{◌>>=◌}
use Rattle.frr_text.specs.Words.{Word}

abbrev pub Rule : Type 0 → Type 0
Rule X = List Word → Option (X × List Word)

abbrev pub or_else : {A : Type 0} → Option A → Option A → Option A
or_else (Some x) other = Some x
or_else None other = other

-- what is read as one of these: as the first that can be read
unfoldable pub first_of_all : {X Y : Type 0} → (X → Rule Y) → List X → Rule Y
first_of_all rule [] text = None
first_of_all rule (x ∷ xs) text = or_else (rule x text) (first_of_all rule xs text)

-- what is read n times, one after another
unfoldable pub times : {X : Type 0} → Rule X → ℕ → List Word → Option (List X)
times rule zero text = Some []
times rule (suc n) text = do
  first ← rule text
  others ← times rule n first.1
  Some (first.0 ∷ others)
