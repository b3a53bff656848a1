use Rattle.std.proofs.Common.{◌≡◌, ◌++◌, map, take}
use Rattle.lsdb.specs.Slots.{lists_of}
use Rattle.route_report.specs.StepsOver.{step_over}
use Rattle.route_report.proofs.step.push_steps_over.Given as goal

-- those of the ways so far were added
abbrev pub invariant-loop-way : goal.invariant-loop-way
invariant-loop-way g l =
    l.steps.items ≡ l.initial.steps.items ++ map (step_over (lists_of l.database) l.router l.net l.source) (take l.way-index l.ways)
