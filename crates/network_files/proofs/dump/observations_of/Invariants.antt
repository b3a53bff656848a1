use Rattle.std.proofs.Common.{◌≡◌, take}
use Rattle.network_files.specs.Dumps.{observations_of}
use Rattle.network_files.proofs.dump.observations_of.Given as goal

abbrev pub invariant-loop-file : goal.invariant-loop-file
invariant-loop-file g l = l.all.items ≡ observations_of (take l.file-index l.files)
