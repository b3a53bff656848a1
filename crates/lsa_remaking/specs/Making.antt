-- The LSA that bytes make once length and checksum are set again, or why they make none (RFC 2328, A.4.1).
use Rattle.std.specs.Prelude.{◌≡◌, ℕ, List, length, nat_lt, if◌then◌else◌, Result, Ok, Err}
use Rattle.lsa_codec.specs.Accepted.{longest_lsa}
use Rattle.lsa_codec.specs.Checksum.{with_checksum}
use Rattle.lsa_codec.specs.Decoding.{decoded}
use Rattle.lsa_codec.specs.Fields.{put_number}
use Rattle.lsa_codec.specs.declared.fault.LsaFault.{LsaFault}
use Rattle.lsa_remaking.specs.declared.fault.RemakeFault.{RemakeFault}
use Rattle.lsa_remaking.specs.declared.fault.RemakeFault.TheVariants.{TooLong, Rejected, OutOfMemory}

-- the bytes with their length in the length field, and the checksum set again
abbrev pub remeasured : List ℕ → List ℕ
remeasured bytes = with_checksum (put_number 2 18 (length bytes) bytes)

-- what is decoded, or the fault that the bytes are rejected for
abbrev pub accepted_or_rejected : Result (List ℕ) LsaFault → Result (List ℕ) RemakeFault
accepted_or_rejected (Ok lsa) = Ok lsa
accepted_or_rejected (Err fault) = Err (Rejected fault)

-- the LSA that the bytes make, or the first fault
abbrev pub made : List ℕ → Result (List ℕ) RemakeFault
made bytes = if nat_lt longest_lsa (length bytes) then Err TooLong else accepted_or_rejected (decoded (remeasured bytes))

-- the fault is the one that the result names; memory may run out before it is found
abbrev pub IsRemakeFaultOf : RemakeFault → Result (List ℕ) RemakeFault → Type 0
IsRemakeFaultOf TooLong answer = answer ≡ Err TooLong
IsRemakeFaultOf (Rejected fault) answer = answer ≡ Err (Rejected fault)
IsRemakeFaultOf OutOfMemory answer = Unit {0}
