-- What one word says after a mark.
use Rattle.std.specs.Prelude.{ℕ, ◌==◌, ◌&&◌, [], ◌∷◌, Option, None, if◌then◌else◌}
use Rattle.text_words.specs.Numbers.{number_up_to, hex_up_to}
use Rattle.frr_text.specs.Words.{Word}

-- the number that a word spells in hexadecimal after `0x` (48 and 120)
unfoldable pub marked_up_to : ℕ → Word → Option ℕ
marked_up_to max (first ∷ second ∷ digits) = if first == 48 && second == 120 then hex_up_to max digits else None
marked_up_to max _ = None

-- the length of a mask, after a slash (47)
unfoldable pub mask_length : Word → Option ℕ
mask_length [] = None
mask_length (slash ∷ digits) = if slash == 47 then number_up_to 32 digits else None
