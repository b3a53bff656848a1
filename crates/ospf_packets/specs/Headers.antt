-- The LSA headers of Database Description and Link State Acknowledgment packets (RFC 2328, A.3.3, A.3.6): they fill
-- the rest of the packet, one after another, each of 20 bytes (A.4.1).
use Rattle.std.specs.Prelude.{ℕ, ◌*◌, ◌/◌, ◌%◌, ◌==◌, Bool, nat_lt, if◌then◌else◌, List, [], ◌∷◌, ◌++◌, length, map, drop}
use Rattle.std.specs.List.{range_with_len}
use Rattle.lsa_codec.specs.declared.address.AreaId.{AreaId}
use Rattle.lsa_codec.specs.Fields.{number_at, age_of, kind_of, checksum_of}
use Rattle.lsa_codec.specs.Key.{key_of}
use Rattle.lsa_instances.specs.declared.header.Header.{Header}
use Rattle.lsa_instances.specs.Order.{scope_in}
use Rattle.findings.specs.declared.part.Part.{Part}
use Rattle.findings.specs.declared.part.Part.TheVariants as contents
use Rattle.ospf_packets.specs.declared.update.Flooded.{Flooded}
use Rattle.ospf_packets.specs.Packets.{lack}

-- the header at the front, of an LSA that is flooded in an area
abbrev pub header_in : AreaId → List ℕ → Header
header_in area bytes = record {
  place = record { scope = scope_in area (kind_of bytes); key = key_of bytes };
  instance = record { sequence = number_at 4 12 bytes; checksum = checksum_of bytes };
  age = age_of bytes;
}

module _ {A : Type 0} where
  -- the header after n others
  abbrev pub parsed_header : AreaId → List ℕ → ℕ → Part A
  parsed_header area bytes n = contents.Header (header_in area (drop (20 * n) bytes))

  -- all headers that are whole
  abbrev pub whole_headers : AreaId → List ℕ → List (Part A)
  whole_headers area bytes = map (parsed_header area bytes) (range_with_len 0 (length bytes / 20))

  -- a warning where bytes are left over, fewer than a header has
  abbrev pub left_over : Bool → List ℕ → List (Part A)
  left_over whole bytes = if length bytes % 20 == 0 then [] else contents.Warning (lack whole) ∷ []

  abbrev pub parsed_headers : Flooded → List ℕ → List (Part A)
  parsed_headers by bytes = whole_headers by.area bytes ++ left_over by.whole bytes

  -- what a packet contains whose headers stand after this number of bytes
  abbrev pub headers_after : ℕ → Flooded → List ℕ → List (Part A)
  headers_after before by packet =
      if nat_lt (length packet) before then contents.Warning (lack by.whole) ∷ []
      else parsed_headers by (drop before packet)
