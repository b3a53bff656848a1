use Rattle.std.proofs.Common.{◌≡◌, map, take}
use Rattle.finding_json.specs.Lsas.{lsa_json}
use Rattle.explanation_json.specs.Explanations.{rest_json}
use Rattle.explanation_json.proofs.rest.shown_rests.Given as goal

-- the LSAs so far
abbrev pub invariant-loop-rest : goal.invariant-loop-rest
invariant-loop-rest g l = map (λ lsa. lsa_json lsa.0) l.shown.items ≡ map rest_json (take l.rest-index l.rests)
