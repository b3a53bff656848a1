-- What frames carry, by the type of their link (the LINKTYPE_ numbers of tcpdump.org).
use Rattle.std.specs.Prelude.{ℕ, ◌==◌, ◌||◌, ◌&&◌, Bool, nat_le, nat_lt, if◌then◌else◌, List, ◌∷◌, length, drop, Result, Ok, Err}
use Rattle.capture_files.specs.declared.frame.LinkType.{LinkType}
use Rattle.lsa_codec.specs.Fields.{number_at}
use Rattle.findings.specs.declared.frame_warning.FrameWarning.{FrameWarning}
use Rattle.findings.specs.declared.frame_warning.FrameWarning.TheVariants.{OtherLink, NotIpv4, Encapsulated, Truncated}

-- the EtherTypes of VLAN tags: IEEE 802.1Q, 802.1ad, and one that was used before it
abbrev pub is_tag : ℕ → Bool
is_tag kind = kind == 0x8100 || kind == 0x88a8 || kind == 0x9100

-- the EtherTypes of what may carry IPv4 in its turn: sessions of PPPoE (RFC 2516, 4), and MPLS, to one and to many
-- (RFC 3032, 5)
abbrev pub is_encapsulating : ℕ → Bool
is_encapsulating kind = kind == 0x8864 || kind == 0x8847 || kind == 0x8848

-- IPv4 alone is read
abbrev pub untagged : ℕ → List ℕ → Result (List ℕ) FrameWarning
untagged kind bytes = if kind == 0x0800 then Ok bytes else if is_encapsulating kind then Err Encapsulated else Err NotIpv4

-- what follows an EtherType. After that of a tag stand two bytes of the tag, and then the EtherType of what is tagged
unfoldable pub after_type : ℕ → List ℕ → Result (List ℕ) FrameWarning
after_type kind (a ∷ b ∷ c ∷ d ∷ bytes) =
    if is_tag kind then after_type (number_at 2 2 (a ∷ b ∷ c ∷ d ∷ bytes)) bytes else untagged kind (a ∷ b ∷ c ∷ d ∷ bytes)
after_type kind bytes = if is_tag kind then Err Truncated else untagged kind bytes

-- what follows a header of this size in bytes, which has the EtherType at an offset
abbrev pub after_header : ℕ → ℕ → List ℕ → Result (List ℕ) FrameWarning
after_header size offset frame =
    if nat_lt (length frame) size then Err Truncated else after_type (number_at 2 offset frame) (drop size frame)

-- what follows the protocol of PPP (RFC 1661, 2): that of IPv4 is 0021
abbrev pub after_protocol : List ℕ → Result (List ℕ) FrameWarning
after_protocol bytes =
    if nat_lt (length bytes) 2 then Err Truncated else if number_at 2 0 bytes == 0x0021 then Ok (drop 2 bytes) else Err NotIpv4

-- address ff and control 03 stand before the protocol where the framing is that of HDLC (RFC 1662, 3.1)
abbrev pub is_framed : List ℕ → Bool
is_framed frame = nat_le 2 (length frame) && number_at 2 0 frame == 0xff03

abbrev pub ppp_payload : List ℕ → Result (List ℕ) FrameWarning
ppp_payload frame = if is_framed frame then after_protocol (drop 2 frame) else after_protocol frame

-- the address family of IPv4 is 2 everywhere, in the byte order of the machine or of the network
abbrev pub is_internet : ℕ → Bool
is_internet family = family == 2 || family == 0x02000000

abbrev pub loopback_payload : List ℕ → Result (List ℕ) FrameWarning
loopback_payload frame =
    if nat_lt (length frame) 4 then Err Truncated else if is_internet (number_at 4 0 frame) then Ok (drop 4 frame) else Err NotIpv4

-- Ethernet has two addresses and the EtherType; Linux cooked captures have it at the end of their header, and those of
-- version 2 at its front; HDLC of Cisco has address, control and the EtherType; PPP, and PPP with framing; loopback in
-- two forms; the last two link types have no header
abbrev pub link_payload : LinkType → List ℕ → Result (List ℕ) FrameWarning
link_payload link frame =
    if link.0 == 1 then after_header 14 12 frame
    else if link.0 == 113 then after_header 16 14 frame
    else if link.0 == 276 then after_header 20 0 frame
    else if link.0 == 104 then after_header 4 2 frame
    else if link.0 == 9 || link.0 == 50 then ppp_payload frame
    else if link.0 == 0 || link.0 == 108 then loopback_payload frame
    else if link.0 == 101 || link.0 == 228 then Ok frame
    else Err OtherLink
