-- The number that one word spells.
use Rattle.std.specs.Prelude.{ℕ, ◌==◌, ◌&&◌, ◌||◌, nat_lt, nat_le, Bool, length, Option, Some, None, if◌then◌else◌, slice_index}
use Rattle.std.specs.Char.{is_ascii_digit}
use Rattle.std.specs.Int.{is_in_range}
use Rattle.std.specs.List.{list_all}
use Rattle.std.specs.Str.Parse.{digits_value}
use Rattle.text_words.specs.declared.digits.Digits.{Digits}
use Rattle.text_words.specs.declared.digits.Digits.TheVariants.{Decimal, Hexadecimal}
use Rattle.text_words.specs.Words.{Word}

-- 0 to 9 (48 to 57), and for a hexadecimal number a to f (97 to 102)
abbrev pub is_digit : Digits → ℕ → Bool
is_digit Decimal byte = is_ascii_digit byte
is_digit Hexadecimal byte = is_ascii_digit byte || is_in_range 97 102 byte

abbrev pub radix : Digits → ℕ
radix Decimal = 10
radix Hexadecimal = 16

-- the number that a word spells in such digits, where it spells one that is at most max; zeros may lead
unfoldable pub digits_up_to : Digits → ℕ → Word → Option ℕ
digits_up_to digits max word =
    if nat_lt 0 (length word) && list_all (is_digit digits) word && nat_le (digits_value (radix digits) word) max
    then Some (digits_value (radix digits) word) else None

-- the same in decimal
unfoldable pub decimal_up_to : ℕ → Word → Option ℕ
decimal_up_to max word = digits_up_to Decimal max word

-- the same in decimal, where no zero (48) stands before another digit
unfoldable pub number_up_to : ℕ → Word → Option ℕ
number_up_to max word = if nat_lt 1 (length word) && slice_index word 0 == 48 then None else digits_up_to Decimal max word

-- the same in hexadecimal
unfoldable pub hex_up_to : ℕ → Word → Option ℕ
hex_up_to max word = digits_up_to Hexadecimal max word
