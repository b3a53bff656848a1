use Rattle.std.proofs.Common.{◌≡◌, map, take}
use Rattle.explanation_json.specs.Explanations.{candidate_json}
use Rattle.explanation_json.proofs.candidate.shown_candidates.Given as goal

-- the candidates so far
abbrev pub invariant-loop-line : goal.invariant-loop-line
invariant-loop-line g l = map (λ line. candidate_json line.0) l.shown.items ≡ map candidate_json (take l.line-index l.lines)
