-- What a capture file contains, without the location of its bytes in memory.
use Rattle.std.specs.Prelude.{ℕ, List, map, Option}
use Rattle.capture_files.specs.declared.frame.Capture.{Capture}
use Rattle.capture_files.specs.declared.frame.End.{End}
use Rattle.capture_files.specs.declared.frame.Frame.{Frame}
use Rattle.capture_files.specs.declared.frame.LinkType.{LinkType}

-- a frame: its link, its moment in nanoseconds since 1970, the bytes captured of it, and how many it had
pub record Packet : Type 0 where
  pub link : LinkType
  pub seen : Option ℕ
  pub bytes : List ℕ
  pub original : ℕ

abbrev pub packet_of : Frame → Packet
packet_of frame = record { link = frame.link; seen = frame.seen; bytes = frame.bytes.now; original = frame.original }

-- the frames of a file, and how it ends
pub record CaptureText : Type 0 where
  pub packets : List Packet
  pub end : End

abbrev pub capture_text : {A : Type 0} → Capture A → CaptureText
capture_text capture = record { packets = map packet_of capture.frames.items; end = capture.end }
