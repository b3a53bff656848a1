-- How net-snmp prints bytes (its functions sprint_realloc_hexstring and sprint_realloc_asciistring).
use Rattle.std.specs.Prelude.{◌≡◌, ℕ, ◌==◌, ◌||◌, not, Bool, List, [], ◌∷◌, ◌++◌, codes, filter, if◌then◌else◌}
use Rattle.hex.specs.Hex.{encode_upper}
use Rattle.snmp_walk.specs.Text.{is_blank}

-- the digits of bytes, two for each, with blanks between them in any places: a space after each byte, and a line feed
-- after each 16
abbrev pub AreDigitsOf : List ℕ → List ℕ → Type 0
AreDigitsOf bytes text = filter (λ byte. not (is_blank byte)) text ≡ encode_upper bytes

abbrev pub hex_value : List ℕ → List ℕ
hex_value text = codes "Hex-STRING:" ++ text

-- a backslash stands before a quote (0x22) and before a backslash (0x5c)
abbrev pub is_special : ℕ → Bool
is_special byte = byte == 0x22 || byte == 0x5c

abbrev pub escaped : List ℕ → List ℕ
escaped [] = []
escaped (byte ∷ bytes) = if is_special byte then 0x5c ∷ byte ∷ escaped bytes else byte ∷ escaped bytes

abbrev pub between_quotes : List ℕ → List ℕ
between_quotes bytes = 0x22 ∷ (escaped bytes ++ 0x22 ∷ [])
