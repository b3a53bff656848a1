-- The LSAs of a Link State Update packet (RFC 2328, A.3.5): their number, and then the LSAs one after another, each as
-- long as its length says.
use Rattle.std.specs.Prelude.{ℕ, zero, suc, Bool, nat_lt, if◌then◌else◌, List, [], ◌∷◌, length, take}
use Rattle.std.specs.Prelude.{drop, Result, Ok, Err}
use Rattle.lsa_codec.specs.declared.fault.LsaFault.{LsaFault}
use Rattle.lsa_codec.specs.Decoding.{decoded}
use Rattle.lsa_codec.specs.Fields.{length_of, kind_of}
use Rattle.lsa_instances.specs.Order.{scope_in}
use Rattle.findings.specs.declared.frame_warning.FrameWarning.{FrameWarning}
use Rattle.findings.specs.declared.frame_warning.FrameWarning.TheVariants.{BadLength, RefusedLsa}
use Rattle.findings.specs.declared.part.Part.{Part}
use Rattle.findings.specs.declared.part.Part.TheVariants as contents
use Rattle.ospf_packets.specs.declared.update.Flooded.{Flooded}
use Rattle.ospf_packets.specs.Packets.{lack}

-- the length in bytes of the LSA at the front: at least that of its header, and no more than are there
abbrev pub lsa_length : Bool → List ℕ → Result ℕ FrameWarning
lsa_length whole bytes =
    if nat_lt (length bytes) 20 then Err (lack whole)
    else if nat_lt (length_of bytes) 20 then Err BadLength
    else if nat_lt (length bytes) (length_of bytes) then Err (lack whole)
    else Ok (length_of bytes)

module _ {A : Type 0} where
  -- an LSA that is accepted has the scope of its LS type in the area of the packet
  abbrev pub parsed_decoded : Flooded → Result (List ℕ) LsaFault → Part A
  parsed_decoded by (Ok lsa) = contents.Lsa (record { scope = scope_in by.area (kind_of lsa); seen = by.seen; lsa = lsa })
  parsed_decoded by (Err fault) = contents.Warning (RefusedLsa fault)

  -- an LSA, or why its bytes are not one
  abbrev pub parsed_lsa : Flooded → List ℕ → Part A
  parsed_lsa by bytes = parsed_decoded by (decoded bytes)

  abbrev pub first_parsed : Flooded → List ℕ → (List ℕ → List (Part A)) → Result ℕ FrameWarning → List (Part A)
  first_parsed by bytes after (Err warning) = contents.Warning warning ∷ []
  first_parsed by bytes after (Ok size) = parsed_lsa by (take size bytes) ∷ after (drop size bytes)

  -- what follows the LSAs that the packet counts: nothing, or more than the packet says
  abbrev pub uncounted : List ℕ → List (Part A)
  uncounted [] = []
  uncounted (byte ∷ bytes) = contents.Warning BadLength ∷ []

  -- n LSAs at the front, and no more. Where the length of one of them is impossible, it is not known where the others
  -- begin
  unfoldable pub parsed_lsas : Flooded → ℕ → List ℕ → List (Part A)
  parsed_lsas by zero bytes = uncounted bytes
  parsed_lsas by (suc n) bytes = first_parsed by bytes (λ rest. parsed_lsas by n rest) (lsa_length by.whole bytes)
