use Rattle.std.proofs.Common.{◌≤◌, ◌-◌, length, drop, map}
use Rattle.capture_files.specs.CaptureTexts.{packet_of}
use Rattle.capture_files.specs.Pcap.{AreRecords}
use Rattle.capture_files.proofs.pcap.read_records.Given as goal

abbrev pub invariant-records : goal.invariant-records
invariant-records g l = record {
  within : l.offset ≤ length l.file;
  records : AreRecords l.form (drop 24 l.file) (map packet_of l.frames.items) (drop l.offset l.file);
}

abbrev pub decreases-records : goal.decreases-records
decreases-records g l = length l.file - l.offset
