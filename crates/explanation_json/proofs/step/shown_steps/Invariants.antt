use Rattle.std.proofs.Common.{◌≡◌, map, take}
use Rattle.explanation_json.specs.Explanations.{step_json}
use Rattle.explanation_json.proofs.step.shown_steps.Given as goal

-- the steps so far
abbrev pub invariant-loop-step : goal.invariant-loop-step
invariant-loop-step g l = map (λ step. step_json step.0) l.shown.items ≡ map step_json (take l.step-index l.steps)
