use Rattle.std.proofs.Common.{◌≡◌, map, take}
use Rattle.capture_slices.proofs.files.named_files.Given as goal

abbrev pub invariant-loop-file : goal.invariant-loop-file
invariant-loop-file g l = record {
  names : map (λ file. file.name.now) l.files.items ≡ map (λ file. file.name.now) (take l.file-index l.given);
  bytes : map (λ file. file.bytes.now) l.files.items ≡ map (λ file. file.bytes.now) (take l.file-index l.given);
}
