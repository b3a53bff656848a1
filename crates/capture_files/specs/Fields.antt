-- Numbers at offsets of a capture file, in the byte order of the machine that wrote it.
use Rattle.std.specs.Prelude.{ℕ, List}
use Rattle.byteorder.specs.Endian.{big_from, little_from}
use Rattle.capture_files.specs.declared.order.Order.{Order}
use Rattle.capture_files.specs.declared.order.Order.TheVariants.{Big, Little}

-- the number in the n bytes from an offset on
abbrev pub number_at : Order → ℕ → ℕ → List ℕ → ℕ
number_at Big n offset bytes = big_from offset n bytes
number_at Little n offset bytes = little_from offset n bytes
