use Rattle.std.proofs.Common.{◌∙◌, ap, refl, subst}
use Rattle.std.proofs.lemmas.Result.{err_from_is_err_and}
use Rattle.routing_table.specs.AreasTrees.{routers_of}
use Rattle.edit_history.specs.Session.{Session}
use Rattle.recalculate.specs.CallsForTables.{CalculatesTrees}
use Rattle.recalculate.specs.Planning.{PlannerValue, router_of}
use Rattle.recalculate.proofs.Caches.{with_baseline}
use Rattle.recalculate.proofs.Calculated.{keeps_first, none_calculated, none_until_memory}
use Rattle.recalculate.proofs.CallsSpare.{shown}
use Rattle.recalculate.proofs.Staying.{stayed_same}
use Rattle.recalculate.proofs.planner.Planner.baseline_table.Goals as goal

pub returns-in-Some-clause-trees : goal.returns-in-Some-clause-trees
returns-in-Some-clause-trees g c =
    none_calculated c.args.self.now.session.base c.args.router c.args.self.now.first_kept c.args.self.now.runs c.in-Some.ensures.table.trees

pub returns-in_err-clone-clause-trees : goal.returns-in_err-clone-clause-trees
returns-in_err-clone-clause-trees g c =
    let gave = err_from_is_err_and c.from_residual.result c.from_residual.ensures.1 in
    rw (gave.1, gave.2) (none_until_memory c.args.self.now.session.base c.args.router c.args.self.now.first_kept c.args.self.now.runs)

pub invariant_of-self : goal.invariant_of-self
invariant_of-self g c = with_baseline _ _ _ _ _ c.new_base_table.ensures.session c.new_base_table.ensures.cache c.self.invariant

pub returns-clause-trees : goal.returns-clause-trees
returns-clause-trees g c =
    subst (λ (p : PlannerValue). CalculatesTrees p.session.base c.args.router c.new_base_table.result (p.first_kept, p.runs)
    (routers_of c.new_base_table.new.kept.trees, c.new_base_table.new.meter)) c.self.view_is c.new_base_table.ensures.trees

pub returns-clause-first : goal.returns-clause-first
returns-clause-first g c = keeps_first c.args.router c.new_base_table.result c.new_base_table.new.kept.table _ _ refl c.new_base_table.ensures.last

pub returns-clause-others : goal.returns-clause-others
returns-clause-others g c =
    ap (λ (s : Session). shown s c.new_base_table.new.meter c.self.inside.present c.new_base_table.new.kept c.self.inside.asked)
    c.new_base_table.ensures.session
    ∙ ap (λ (p : PlannerValue). record p {
      runs = c.new_base_table.new.meter;
      first_kept = routers_of c.new_base_table.new.kept.trees;
      tables = record p.tables { first = router_of c.new_base_table.new.kept.table };
    }) c.self.view_is

pub returns-clause-step : goal.returns-clause-step
returns-clause-step g c =
    stayed_same _ _ (c.new_base_table.ensures.session ∙ ap (λ (p : PlannerValue). p.session) c.self.view_is) (ap (λ (p : PlannerValue). p.kept) c.self.view_is)
