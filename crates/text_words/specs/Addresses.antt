-- The address that one word spells.
use Rattle.std.specs.Prelude.{ℕ, ◌==◌, List, [], ◌∷◌, Option, Some, None}
use Rattle.std.specs.Int.{w32, from_be_bytes}
use Rattle.std.specs.List.{slice_split}
use Rattle.text_words.specs.Options.{◌>>=◌}
use Rattle.text_words.specs.Words.{Word}
use Rattle.text_words.specs.Numbers.{number_up_to}

abbrev pub four_parts : List Word → Option (Word × Word × Word × Word)
four_parts (a ∷ b ∷ c ∷ d ∷ []) = Some (a, b, c, d)
four_parts _ = None

-- four numbers up to 255, the bytes of an address, the highest first
unfoldable pub address_of_parts : List Word → Option ℕ
address_of_parts parts = do
  part ← four_parts parts
  first ← number_up_to 255 part.0
  second ← number_up_to 255 part.1
  third ← number_up_to 255 part.2
  fourth ← number_up_to 255 part.3
  Some (from_be_bytes w32 (first ∷ second ∷ third ∷ fourth ∷ []))

-- the address that a word spells in dotted decimal, where it spells one: the parts between its dots (46)
abbrev pub address_of : Word → Option ℕ
address_of word = address_of_parts (slice_split (λ byte. byte == 46) word)
