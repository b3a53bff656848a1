-- The ends of prefixes.
use Rattle.std.specs.Prelude.{◌+◌, ◌-◌, ◌^◌, ℕ}
use Rattle.lsa_codec.specs.Prefix.{Net}

-- the number after the last address of a prefix
abbrev pub end_of : Net → ℕ
end_of net = net.addr.0 + 2 ^ (32 - net.len)
