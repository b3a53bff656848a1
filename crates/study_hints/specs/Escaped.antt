-- A word of a line as it is printed.
use Rattle.std.specs.Prelude.{ℕ, ◌+◌, ◌/◌, ◌%◌, ◌==◌, ◌&&◌, not, nat_le, nat_lt, Bool, List, [], ◌∷◌, ◌++◌, length, take, flat_map, codes, if◌then◌else◌}
use Rattle.text_words.specs.Words.{Word}

-- a digit to the base 16: 0 to 9 (48 to 57), a to f (97 to 102)
abbrev pub hex_digit : ℕ → ℕ
hex_digit n = if nat_lt n 10 then 48 + n else 87 + n

-- 21 to 7e, other than `\` (5c)
abbrev pub is_plain : ℕ → Bool
is_plain byte = nat_le 0x21 byte && nat_le byte 0x7e && not (byte == 0x5c)

-- such a byte as it is, each other one as `\xNN`
abbrev pub escaped_byte : ℕ → List ℕ
escaped_byte byte = if is_plain byte then byte ∷ [] else codes "\\x" ++ hex_digit (byte / 16) ∷ hex_digit (byte % 16) ∷ []

-- the first 64 bytes of a word; `..` follows where there are more
abbrev pub escaped : Word → List ℕ
escaped word = flat_map escaped_byte (take 64 word) ++ (if nat_le (length word) 64 then [] else codes "..")
