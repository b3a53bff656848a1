-- Fletcher's checksum in closed form (RFC 905, annex B).
use Rattle.std.specs.Prelude.{ℕ, ◌+◌, ◌*◌, ◌%◌, List, [], ◌∷◌, length, sum, ◌==◌, if◌then◌else◌}

-- the sum of the bytes, each times its place counted from the end, the last byte at place 1
abbrev pub weighted_sum : List ℕ → ℕ
weighted_sum [] = 0
weighted_sum (byte ∷ bytes) = length (byte ∷ bytes) * byte + weighted_sum bytes

-- both sums modulo 255
abbrev pub first_sum : List ℕ → ℕ
first_sum bytes = sum bytes % 255

abbrev pub second_sum : List ℕ → ℕ
second_sum bytes = weighted_sum bytes % 255

-- a number modulo 255 as a byte, where 0 is written as 255
abbrev pub nonzero_byte : ℕ → ℕ
nonzero_byte n = if n % 255 == 0 then 255 else n % 255

-- the checksum for bytes with 0 in its own field, the bytes 14 and 15; modulo 255, 240 stands for -15, 241 for -14
-- and 254 for -1
unfoldable pub checksum_of : List ℕ → List ℕ
checksum_of bytes =
    nonzero_byte ((length bytes % 255 + 240) * first_sum bytes + 254 * second_sum bytes)
    ∷ nonzero_byte (254 * ((length bytes % 255 + 241) * first_sum bytes) + second_sum bytes)
    ∷ []
