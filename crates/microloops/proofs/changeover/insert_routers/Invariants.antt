use Rattle.std.proofs.Common.{take}
use Rattle.std.specs.List.{All}
use Rattle.lsa_codec.specs.declared.address.RouterId.{RouterId}
use Rattle.microloops.specs.steps.Groups.{Has}
use Rattle.microloops.proofs.changeover.insert_routers.Given as goal

-- the routers so far were added
abbrev pub invariant-loop-step : goal.invariant-loop-step
invariant-loop-step g l = record {
  kept : (v : RouterId) → Has l.initial.routers v → Has l.routers v;
  all : All (λ step. Has l.routers step.router) (take l.step-index l.step-items);
}
