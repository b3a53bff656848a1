use Rattle.std.proofs.Common.{◌≡◌, ◌++◌, map, take, drop}
use Rattle.capture_files.specs.CaptureTexts.{packet_of}
use Rattle.ospf_packets.specs.ParsedFrames.{parsed_after, parsed_in}
use Rattle.ospf_packets.proofs.parsed_frame.parse_all.Given as goal

abbrev pub invariant-loop-index : goal.invariant-loop-index
invariant-loop-index g l =
    l.parsed.items ++ parsed_after (map packet_of (take l.index l.frames)) (map packet_of (drop l.index l.frames))
    ≡ parsed_in (map packet_of l.frames)
