use Rattle.std.proofs.Common.{◌≡◌, map, drop}
use Rattle.capture_files.specs.CaptureTexts.{packet_of}
use Rattle.ospf_packets.specs.Datagrams.{datagram_text}
use Rattle.ospf_packets.specs.Fragments.{has_front}
use Rattle.ospf_packets.proofs.fragment.has_front.Given as goal

abbrev pub invariant-loop-frame : goal.invariant-loop-frame
invariant-loop-frame l =
    has_front (datagram_text l.fragment) (map packet_of (drop l.frame-index l.frames))
    ≡ has_front (datagram_text l.fragment) (map packet_of l.frames)
