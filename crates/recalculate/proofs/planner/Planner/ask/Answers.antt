use Rattle.std.proofs.Common.{◌≡◌, Some, true, ap, rules, subst, sym}
use Rattle.recalculate.specs.Asking.{IsAskedAgain}
use Rattle.recalculate.specs.CallsForTables.{NotesAsked}
use Rattle.recalculate.specs.Planning.{PlannerValue}
use Rattle.recalculate.proofs.CallsSpare.{shown}
use Rattle.recalculate.proofs.EitherTables.{noted_again, noted_alone}
use Rattle.recalculate.proofs.planner.Planner.ask.Goals as goal

pub returns-then-not-again : goal.returns-then-not-again
returns-then-not-again g c =
    subst (λ (p : PlannerValue). NotesAsked c.args.router p
    (shown c.self.inside.study c.self.inside.meter c.self.inside.present c.self.inside.baseline (Some c.args.router))) c.self.view_is
    (noted_alone c.args.router (Some c.args.router)
    (shown c.self.inside.study c.self.inside.meter c.self.inside.present c.self.inside.baseline c.self.inside.asked))

pub returns : goal.returns
returns g c =
    let asked : c.is_asked_again-again.result ≡ true = search rules in
    subst (λ (p : PlannerValue). NotesAsked c.args.router p c.baseline_table.new.self) c.self.view_is
    (noted_again c.args.router (Some c.args.router)
    (shown c.self.inside.study c.self.inside.meter c.self.inside.present c.self.inside.baseline c.self.inside.asked) c.baseline_table.result
    c.baseline_table.new.self
    (subst (λ (p : PlannerValue). IsAskedAgain c.args.router p) (sym c.self.view_is) (c.is_asked_again-again.ensures asked)) c.baseline_table.ensures.step
    (ap (λ (p : PlannerValue). p.kept) c.baseline_table.ensures.others) c.baseline_table.ensures.trees c.baseline_table.ensures.first)
