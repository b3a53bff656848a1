use Rattle.std.proofs.Common.{◌∙◌, ap, subst, sym}
use Rattle.lsdb.specs.Lists.{Lists}
use Rattle.edit_history.specs.Session.{state}
use Rattle.routing_table.specs.AreasTrees.{routers_of}
use Rattle.routing_table.specs.Tables.{TableValue}
use Rattle.recalculate.specs.CallsForTables.{ShowsTable}
use Rattle.recalculate.specs.Planning.{IsCacheOf, PlannerValue}
use Rattle.recalculate.proofs.Caches.{with_present}
use Rattle.recalculate.proofs.Staying.{grown_shown, trees_made, trees_stay}
use Rattle.recalculate.proofs.planner.Planner.table.Goals as goal

pub table_of-requires : goal.table_of-requires
table_of-requires g c = subst (λ (db : Lists). IsCacheOf db c.self.inside.present) (sym c.database.ensures.state) c.self.invariant.present

pub invariant_of-self : goal.invariant_of-self
invariant_of-self g c = with_present _ _ _ _ _ c.database.ensures.state c.table_of.ensures.cache c.self.invariant

pub returns-clause-table : goal.returns-clause-table
returns-clause-table g c =
    subst (λ (db : Lists). ShowsTable c.table_of.result (λ (table : TableValue). table) db c.args.router)
    (c.database.ensures.state ∙ ap (λ (p : PlannerValue). state p.session) c.self.view_is) c.table_of.ensures.table

pub returns-clause-trees : goal.returns-clause-trees
returns-clause-trees g c =
    trees_made c.self.inside.study c.self.inside.meter c.table_of.new.meter c.self.inside.present c.table_of.new.self c.self.inside.baseline c.self.inside.asked
    c.table_of.result _ c.args.router c.database.ensures.state _ c.self.view_is c.table_of.ensures.trees

pub returns-clause-others : goal.returns-clause-others
returns-clause-others g c =
    grown_shown c.self.inside.study c.self.inside.meter c.table_of.new.meter c.self.inside.present c.table_of.new.self c.self.inside.baseline
    c.self.inside.asked c.table_of.ensures.last
    ∙ ap (λ (p : PlannerValue). record p { runs = c.table_of.new.meter; kept = routers_of c.table_of.new.self.trees }) c.self.view_is

pub returns-clause-step : goal.returns-clause-step
returns-clause-step g c =
    trees_stay c.self.inside.study c.self.inside.meter c.table_of.new.meter c.self.inside.present c.table_of.new.self c.self.inside.baseline c.self.inside.asked
    c.table_of.result _ c.args.router c.database.ensures.state _ c.self.view_is c.table_of.ensures.trees
