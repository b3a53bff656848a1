use Rattle.std.proofs.Common.{◌≡◌, ◌+◌, drop}
use Rattle.std.specs.Prelude.{reverse}
use Rattle.study_hints.specs.Near.{common}
use Rattle.study_hints.proofs.near.common_end.Given as goal

abbrev pub invariant-loop-index : goal.invariant-loop-index
invariant-loop-index l =
    common (reverse l.word) (reverse l.other) ≡ l.index + common (drop l.index (reverse l.word)) (drop l.index (reverse l.other))
