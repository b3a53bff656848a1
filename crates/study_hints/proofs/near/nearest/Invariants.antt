use Rattle.std.proofs.Common.{◌≡◌}
use Rattle.std.specs.Prelude.{option_map}
use Rattle.study_hints.specs.Near.{most_like, near}
use Rattle.study_hints.proofs.MostLike.{front}
use Rattle.study_hints.proofs.near.nearest.Given as goal

abbrev pub invariant-loop-candidate : goal.invariant-loop-candidate
invariant-loop-candidate g l = record {
  most : l.most ≡ most_like l.word (front g.T.Candidate.written l.word l.candidates l.candidate-index);
  best : option_map (λ found. g.T.Candidate.written found.now) l.best ≡ near l.word (front g.T.Candidate.written l.word l.candidates l.candidate-index);
}
