-- IPv4 datagrams that carry OSPF (RFC 791, 3.1; RFC 2328, appendix A.1).
use Rattle.std.specs.Prelude.{ℕ, ◌-◌, ◌*◌, ◌/◌, ◌%◌, ◌==◌, ◌&&◌, ◌||◌, Bool, not, nat_le, nat_lt, if◌then◌else◌, List}
use Rattle.std.specs.Prelude.{length, take, drop, Result, Ok, Err}
use Rattle.lsa_codec.specs.Fields.{number_at, byte_at}
use Rattle.ospf_packets.specs.declared.datagram.Datagram.{Datagram}
use Rattle.findings.specs.declared.frame_warning.FrameWarning.{FrameWarning}
use Rattle.findings.specs.declared.frame_warning.FrameWarning.TheVariants.{NotIpv4, NotOspf, Encapsulated, Truncated, BadLength}

-- a datagram, or a fragment of one, as values: what distinguishes the datagrams of one sender; the number of bytes of
-- the payload before those of the fragment, and whether others follow them; the bytes of the payload that are at hand,
-- and whether they are all that the fragment has
pub record DatagramText : Type 0 where
  pub source : ℕ
  pub destination : ℕ
  pub identification : ℕ
  pub before : ℕ
  pub more : Bool
  pub whole : Bool
  pub payload : List ℕ

abbrev pub datagram_text : Datagram → DatagramText
datagram_text datagram = record {
  source = datagram.source;
  destination = datagram.destination;
  identification = datagram.identification;
  before = datagram.before;
  more = datagram.more;
  whole = datagram.whole;
  payload = datagram.payload.now;
}

-- the upper half of the first byte
abbrev pub version_of : List ℕ → ℕ
version_of bytes = byte_at 0 bytes / 16

-- its lower half counts words of four bytes
abbrev pub header_length_of : List ℕ → ℕ
header_length_of bytes = byte_at 0 bytes % 16 * 4

-- the header and the payload
abbrev pub total_length_of : List ℕ → ℕ
total_length_of bytes = number_at 2 2 bytes

-- three flags, of which the last is More Fragments, and the Fragment Offset, in units of eight bytes
abbrev pub flags_and_offset_of : List ℕ → ℕ
flags_and_offset_of bytes = number_at 2 6 bytes

abbrev pub datagram_in : List ℕ → DatagramText
datagram_in bytes = record {
  source = number_at 4 12 bytes;
  destination = number_at 4 16 bytes;
  identification = number_at 2 4 bytes;
  before = flags_and_offset_of bytes % 8192 * 8;
  more = flags_and_offset_of bytes / 8192 % 2 == 1;
  whole = nat_le (total_length_of bytes) (length bytes);
  payload = take (total_length_of bytes - header_length_of bytes) (drop (header_length_of bytes) bytes);
}

-- the lengths are possible: the header has 20 bytes or more and fits into the whole, and the whole is at hand, unless
-- the frame was cut short
abbrev pub has_lengths : Bool → List ℕ → Bool
has_lengths is_cut bytes =
    nat_le 20 (header_length_of bytes) && nat_le (header_length_of bytes) (total_length_of bytes)
    && (is_cut || nat_le (total_length_of bytes) (length bytes))

-- why a datagram of another protocol is not used: GRE (47) may carry IPv4 in its turn, or frames of a mirror port
-- (RFC 2784)
abbrev pub other_protocol : ℕ → FrameWarning
other_protocol protocol = if protocol == 47 then Encapsulated else NotOspf

-- the datagram in the bytes that a frame carries: one of version 4 and of protocol 89. What follows it, as the padding
-- of a short frame, is no part of it
abbrev pub ipv4_of : Bool → List ℕ → Result DatagramText FrameWarning
ipv4_of is_cut bytes =
    if nat_lt (length bytes) 20 then Err Truncated
    else if not (version_of bytes == 4) then Err NotIpv4
    else if not (byte_at 9 bytes == 89) then Err (other_protocol (byte_at 9 bytes))
    else if not (has_lengths is_cut bytes) then Err BadLength
    else if nat_lt (length bytes) (header_length_of bytes) then Err Truncated
    else Ok (datagram_in bytes)
