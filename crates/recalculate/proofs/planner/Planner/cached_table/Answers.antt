use Rattle.std.proofs.Common.{◌∙◌, ap, subst, sym}
use Rattle.std.proofs.lemmas.Result.{err_from_is_err_and}
use Rattle.lsdb.specs.Lists.{Lists}
use Rattle.edit_history.specs.Session.{Session, state}
use Rattle.recalculate.specs.CallsForTables.{ShowsTable}
use Rattle.recalculate.specs.Planning.{IsCacheOf, PlannerValue}
use Rattle.recalculate.proofs.Caches.{with_present}
use Rattle.recalculate.proofs.EitherTables.{both_come, none_come, noted_come}
use Rattle.recalculate.proofs.Staying.{stayed_twice, trees_made, trees_stay}
use Rattle.recalculate.proofs.planner.Planner.cached_table.Goals as goal

pub returns-in-Some-clause-trees : goal.returns-in-Some-clause-trees
returns-in-Some-clause-trees g c = none_come c.args.router _ c.args.self.now c.in-Some.ensures.table.trees

pub returns-in_err-clone-clause-trees : goal.returns-in_err-clone-clause-trees
returns-in_err-clone-clause-trees g c =
    let gave = err_from_is_err_and c.from_residual.result c.from_residual.ensures.1 in
    rw gave.1 (none_come c.args.router _ c.args.self.now tt)

pub returns-in-Some-unchanged_table-clause-trees : goal.returns-in-Some-unchanged_table-clause-trees
returns-in-Some-unchanged_table-clause-trees g c =
    noted_come c.args.router _ c.args.self.now c.ask.new.self c.ask.ensures c.in-Some-unchanged_table.ensures.trees

pub returns-in_err-clone-2-clause-trees : goal.returns-in_err-clone-2-clause-trees
returns-in_err-clone-2-clause-trees g c =
    let gave = err_from_is_err_and c.from_residual-in_err-clone-2.result c.from_residual-in_err-clone-2.ensures.1 in
    rw gave.1 (noted_come c.args.router _ c.args.self.now c.ask.new.self c.ask.ensures tt)

-- a new table of the session's database

pub new_table-requires : goal.new_table-requires
new_table-requires g c = subst (λ (db : Lists). IsCacheOf db c.self.inside.present) (sym c.database.ensures.state) c.self.invariant.present

pub invariant_of-self : goal.invariant_of-self
invariant_of-self g c = with_present _ _ _ _ _ c.database.ensures.state c.new_table.ensures.cache c.self.invariant

pub returns-clause-table : goal.returns-clause-table
returns-clause-table g c =
    subst (λ (db : Lists). ShowsTable c.new_table.result (λ table. table.value) db c.args.router)
    (c.database.ensures.state ∙ ap (λ (p : PlannerValue). state p.session) c.self.view_is
    ∙ ap (λ (s : Session). state s) c.ask.ensures.step.session) c.new_table.ensures.table

pub returns-clause-trees : goal.returns-clause-trees
returns-clause-trees g c =
    both_come c.args.router c.new_table.result c.args.self.now c.ask.new.self c.ask.ensures _ (ap (λ (p : PlannerValue). p.session) c.self.view_is)
    (ap (λ (p : PlannerValue). p.first_kept) c.self.view_is) (ap (λ (p : PlannerValue). p.tables.first) c.self.view_is)
    (trees_made c.self.inside.study c.self.inside.meter c.new_table.new.meter c.self.inside.present c.new_table.new.self c.self.inside.baseline c.self.inside.asked
    c.new_table.result _ c.args.router c.database.ensures.state _ c.self.view_is c.new_table.ensures.trees)

pub returns-clause-step : goal.returns-clause-step
returns-clause-step g c =
    stayed_twice _ _ _ c.ask.ensures.step
    (trees_stay c.self.inside.study c.self.inside.meter c.new_table.new.meter c.self.inside.present c.new_table.new.self c.self.inside.baseline c.self.inside.asked
    c.new_table.result _ c.args.router c.database.ensures.state _ c.self.view_is c.new_table.ensures.trees)
