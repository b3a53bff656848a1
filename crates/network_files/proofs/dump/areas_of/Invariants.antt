use Rattle.std.proofs.Common.{◌≡◌, take}
use Rattle.network_files.specs.Dumps.{areas_of}
use Rattle.network_files.proofs.dump.areas_of.Given as goal

abbrev pub invariant-loop-file : goal.invariant-loop-file
invariant-loop-file g l = l.all.items ≡ areas_of (take l.file-index l.files)
