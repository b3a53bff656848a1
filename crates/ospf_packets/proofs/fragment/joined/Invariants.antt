use Rattle.std.proofs.Common.{◌≡◌, map, drop}
use Rattle.capture_files.specs.CaptureTexts.{packet_of}
use Rattle.ospf_packets.specs.Datagrams.{datagram_text}
use Rattle.ospf_packets.specs.Fragments.{joined}
use Rattle.ospf_packets.proofs.fragment.joined.Given as goal

abbrev pub invariant-loop-frame : goal.invariant-loop-frame
invariant-loop-frame g l =
    joined (datagram_text l.first) l.payload.items (map packet_of (drop l.frame-index l.frames))
    ≡ joined (datagram_text l.first) l.first.payload.now (map packet_of l.frames)
