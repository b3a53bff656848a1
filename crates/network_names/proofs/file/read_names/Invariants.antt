use Rattle.std.proofs.Common.{◌+◌, ◌≤◌, ◌==◌, length}
use Rattle.std.specs.List.{slice_split}
use Rattle.network_names.proofs.FileSteps.{LinesLeft}
use Rattle.network_names.proofs.file.read_names.Given as goal

abbrev pub invariant-loop-front : goal.invariant-loop-front
invariant-loop-front g l = record {
  number : l.line + length l.rest ≤ 1 + length l.text;
  left : LinesLeft (slice_split (λ b. b == 10) l.text) l.line (slice_split (λ b. b == 10) l.rest) l.names;
}

abbrev pub decreases-loop-front : goal.decreases-loop-front
decreases-loop-front g l = length l.rest
