-- How an address and a prefix are written in text.
use Rattle.std.specs.Int.{w32, to_be_bytes}
use Rattle.std.specs.Prelude.{ℕ, map, List, ◌++◌, codes, decimal}
use Rattle.std.specs.List.{join_with_byte}
use Rattle.lsa_codec.specs.Prefix.{Net}

-- dotted decimal: its four bytes as decimal numbers, the highest first, joined by dots
abbrev pub address_text : ℕ → List ℕ
address_text n = join_with_byte 46 (map decimal (to_be_bytes w32 n))

-- the address, a slash and the length
abbrev pub prefix_text : Net → List ℕ
prefix_text net = address_text net.addr.0 ++ codes "/" ++ decimal net.len
