-- Headers of LSAs, without the bodies (RFC 2328, A.4.1).
use Rattle.std.specs.Prelude.{Bool, nat_le, bit_and}
use Rattle.lsa_instances.specs.declared.header.Header.{Header}

-- the age is MaxAge, which is 3600 seconds (RFC 2328, B), or more: the LSA is flushed (14.1). The top bit of the age,
-- DoNotAge, does not count (RFC 1793, 2.2)
abbrev pub is_at_max_age : Header → Bool
is_at_max_age header = nat_le 3600 (bit_and header.age 0x7fff)
