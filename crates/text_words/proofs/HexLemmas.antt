-- Numbers that are written in hexadecimal digits are read.
use Rattle.std.proofs.Common.{◌≡◌, ℕ, ◌<◌, ◌≤◌, Bool, true, List, length, Some}
use Rattle.std.specs.Prelude.{◌||◌}
use Rattle.std.specs.Char.{is_ascii_digit}
use Rattle.std.specs.Int.{is_in_range}
use Rattle.std.specs.List.{list_all}
use Rattle.std.specs.Str.Parse.{digits_value}
use Rattle.text_words.specs.declared.digits.Digits.TheVariants.{Hexadecimal}
use Rattle.text_words.specs.Numbers.{hex_up_to}
use Rattle.text_words.proofs.Spelled.{found}

-- 0 to 9 (48 to 57), and a to f (97 to 102)
abbrev pub is_hex_digit : ℕ → Bool
is_hex_digit byte = is_ascii_digit byte || is_in_range 97 102 byte

pub hex_found : (max : ℕ) (word : List ℕ) (n : ℕ) → 0 < length word → list_all is_hex_digit word ≡ true → digits_value 16 word ≡ n → n ≤ max
    → hex_up_to max word ≡ Some n
unfolding hex_up_to
hex_found max word n nonempty all is small = found Hexadecimal max word n (record { nonempty = nonempty; all = all; is = is; small = small })
