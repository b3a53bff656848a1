use Rattle.std.proofs.Common.{Bool, ap, sym, ◌∙◌}
use Rattle.std.specs.Prelude.{◌||◌, is_some}
use Rattle.std.proofs.lemmas.Bool.{ne_eqb}
use Rattle.branches.specs.Branches.{Named, has_planner}
use Rattle.branches.proofs.PlannersByNumber.{has_by_map, planner_at}
use Rattle.branches.proofs.branches.Branches.has_planner.Goals as goal

pub returns-else-branch-eq0 : goal.returns-else-branch-eq0
returns-else-branch-eq0 g c =
    let entries = c.self.inside.others.entries in
    c.contains_key.ensures
    ∙ ap (λ (b : Bool). b || is_some (planner_at entries c.args.branch)) (sym (ne_eqb c.args.branch 0 c.if-branch-eq0.false))
    ∙ sym (has_by_map c.self.inside.first entries c.args.branch)
    ∙ ap (λ (n : Named). has_planner n c.args.branch) c.self.view_is
