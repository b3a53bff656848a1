use Rattle.std.proofs.Common.{ℕ, List, ap, ◌∙◌}
use Rattle.recalculate.specs.Planning.{PlannerValue}
use Rattle.branches.specs.Branches.{named_by, sessions_of}
use Rattle.branches.proofs.branches.Branches.resume.Goals as goal

pub returns : goal.returns
returns g c =
    ap (λ (planner : PlannerValue). sessions_of (named_by planner c.new.result.entries)) c.beginning-beginning.ensures.kept
    ∙ ap (λ (others : List (ℕ × PlannerValue)). sessions_of (named_by c.args.planner others)) c.new.ensures.empty
