use Rattle.std.proofs.Common.{◌≡◌, ◌+◌, drop}
use Rattle.study_hints.specs.Near.{common}
use Rattle.study_hints.proofs.near.common_front.Given as goal

abbrev pub invariant-loop-index : goal.invariant-loop-index
invariant-loop-index l = common l.word l.other ≡ l.index + common (drop l.index l.word) (drop l.index l.other)
