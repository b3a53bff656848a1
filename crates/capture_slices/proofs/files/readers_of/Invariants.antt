use Rattle.std.proofs.Common.{◌≡◌, false, map, take}
use Rattle.std.specs.Prelude.{All, Some}
use Rattle.capture_report.specs.Runs.{known}
use Rattle.capture_slices.proofs.files.readers_of.Given as goal
use Rattle.host_io.specs.Watched.{has_failed}

abbrev pub invariant-loop-file : goal.invariant-loop-file
invariant-loop-file g l = record {
  unfailed : All (λ reader. has_failed reader ≡ false) l.readers.items;
  bytes : known (λ bytes. Some bytes.now) l.readers.items ≡ map (λ file. Some file.bytes.now) (take l.file-index l.files);
}
