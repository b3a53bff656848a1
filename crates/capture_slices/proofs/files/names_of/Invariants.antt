use Rattle.std.proofs.Common.{◌≡◌, map, take}
use Rattle.capture_slices.proofs.files.names_of.Given as goal

abbrev pub invariant-loop-file : goal.invariant-loop-file
invariant-loop-file g l = map (λ name. name.now) l.names.items ≡ map (λ file. file.name.now) (take l.file-index l.files)
