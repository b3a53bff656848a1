-- Datagrams that are joined from their fragments (RFC 791, 3.2).
use Rattle.std.specs.Prelude.{ℕ, ◌+◌, ◌-◌, ◌==◌, ◌&&◌, Bool, false, not, nat_lt, if◌then◌else◌}
use Rattle.std.specs.Prelude.{List, [], ◌∷◌, ◌++◌, length, take, drop, Option, Some, None, Result, Ok, Err}
use Rattle.std.specs.List.{list_any}
use Rattle.capture_files.specs.CaptureTexts.{Packet}
use Rattle.findings.specs.declared.frame_warning.FrameWarning.{FrameWarning}
use Rattle.ospf_packets.specs.Datagrams.{DatagramText, ipv4_of}
use Rattle.ospf_packets.specs.Links.{link_payload}

infixl 10 ◌>>=◌
abbrev pub ◌>>=◌ : {A B : Type 0} → Result A FrameWarning → (A → Result B FrameWarning) → Result B FrameWarning
(Ok x) >>= f = f x
(Err warning) >>= f = Err warning

-- the capture has fewer bytes of the frame than it had
abbrev pub is_cut : Packet → Bool
is_cut frame = nat_lt (length frame.bytes) frame.original

-- the datagram, or the fragment of one, in a frame
abbrev pub datagram_of : Packet → Result DatagramText FrameWarning
datagram_of frame = link_payload frame.link frame.bytes >>= ipv4_of (is_cut frame)

-- fragments of one datagram; they all are of one protocol
abbrev pub is_same : DatagramText → DatagramText → Bool
is_same a b = a.source == b.source && a.destination == b.destination && a.identification == b.identification

-- the fragment that continues the datagram of the first, of which this size of payload is known
abbrev pub goes_on : DatagramText → ℕ → DatagramText → Bool
goes_on first size fragment = is_same first fragment && fragment.before == size && fragment.whole

-- the payload with what a frame adds to it, and whether this is its end
abbrev pub with_fragment : DatagramText → List ℕ → Result DatagramText FrameWarning → List ℕ × Bool
with_fragment first payload (Err warning) = (payload, false)
with_fragment first payload (Ok fragment) =
    if goes_on first (length payload) fragment then (payload ++ fragment.payload, not fragment.more) else (payload, false)

abbrev pub or_onward : (List ℕ → Option (List ℕ)) → List ℕ × Bool → Option (List ℕ)
or_onward onward found = if found.1 then Some found.0 else onward found.0

-- the payload of the datagram that the first fragment begins, of which this much is known: the other fragments stand
-- in these frames, in order, perhaps among others
unfoldable pub joined : DatagramText → List ℕ → List Packet → Option (List ℕ)
joined first payload [] = None
joined first payload (frame ∷ frames) =
    or_onward (λ longer. joined first longer frames) (with_fragment first payload (datagram_of frame))

-- whether the fragment in a frame is the one just before this one
abbrev pub leads_to : DatagramText → Result DatagramText FrameWarning → Bool
leads_to fragment (Err warning) = false
leads_to fragment (Ok other) =
    is_same fragment other && other.more && (other.before + length other.payload == fragment.before)

-- whether the fragment just before this one stands in one of these frames
abbrev pub has_front : DatagramText → List Packet → Bool
has_front fragment frames = list_any (λ frame. leads_to fragment (datagram_of frame)) frames

-- the other fragments of a datagram are looked for within this number of frames
abbrev pub most_apart : ℕ
most_apart = 256

abbrev pub last_few : List Packet → List Packet
last_few frames = drop (length frames - most_apart) frames

abbrev pub first_few : List Packet → List Packet
first_few frames = take most_apart frames
