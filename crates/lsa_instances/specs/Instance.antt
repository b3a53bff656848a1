-- Which of two instances of one LSA is the newer one (RFC 2328, 13.1).
use Rattle.std.specs.Prelude.{◌≡◌, ℕ, ◌+◌, ◌<◌, ◌⊎◌, true, false, List, bit_and, bit_xor}
use Rattle.std.specs.Cmp.Lexicographic.{slice_cmp}
use Rattle.std.specs.Ordering.{nat_cmp, bool_cmp, ordering_then}
use Rattle.std.specs.declared.cmp.Ordering.{Ordering}
use Rattle.lsa_codec.specs.Fields.{age_of, checksum_of, number_at}
use Rattle.lsa_codec.specs.Key.{is_at_max_age}
use Rattle.lsa_instances.specs.declared.header.InstanceId.{InstanceId}

-- LS sequence number
abbrev pub sequence_of : List ℕ → ℕ
sequence_of lsa = number_at 4 12 lsa

-- a sequence number as a signed number of 32 bits, counted from the least: its top bit is flipped (12.1.6)
abbrev pub signed : ℕ → ℕ
signed sequence = bit_xor sequence 0x8000_0000

abbrev pub signed_sequence_of : List ℕ → ℕ
signed_sequence_of lsa = signed (sequence_of lsa)

-- which instance it is, whatever its age
abbrev pub instance_id_of : List ℕ → InstanceId
instance_id_of lsa = record { sequence = sequence_of lsa; checksum = checksum_of lsa }

-- `Greater` where the first is newer, whatever the ages: by sequence number, then by checksum
abbrev pub instance_id_cmp : InstanceId → InstanceId → Ordering
instance_id_cmp a b = ordering_then (nat_cmp (signed a.sequence) (signed b.sequence)) (nat_cmp a.checksum b.checksum)

-- the LS age in seconds, without the bit DoNotAge
abbrev pub seconds_of : List ℕ → ℕ
seconds_of lsa = bit_and (age_of lsa) 0x7fff

-- `Greater` where the first instance is newer: by sequence number, then by checksum, then MaxAge before other ages,
-- then the lower age. Copies of one instance differ in their age alone. Where other bytes differ too, which no correct
-- checksum allows, the bytes decide
abbrev pub instance_cmp : List ℕ → List ℕ → Ordering
instance_cmp a b =
    ordering_then (instance_id_cmp (instance_id_of a) (instance_id_of b))
    (ordering_then (bool_cmp (is_at_max_age a) (is_at_max_age b))
    (ordering_then (nat_cmp (seconds_of b) (seconds_of a)) (slice_cmp nat_cmp a b)))

-- the rule in the words of the RFC: newer by sequence number; or equal in it, and newer by checksum; or equal in both,
-- and alone at MaxAge; or else by an age that is lower by more than 15 minutes (MaxAgeDiff)
abbrev pub IsNewerByRule : List ℕ → List ℕ → Type 0
IsNewerByRule a b =
    (signed_sequence_of b < signed_sequence_of a)
    ⊎ ((signed_sequence_of a ≡ signed_sequence_of b) × ((checksum_of b < checksum_of a)
    ⊎ ((checksum_of a ≡ checksum_of b) × (((is_at_max_age a ≡ true) × (is_at_max_age b ≡ false))
    ⊎ ((is_at_max_age a ≡ is_at_max_age b) × (seconds_of a + 900 < seconds_of b))))))
