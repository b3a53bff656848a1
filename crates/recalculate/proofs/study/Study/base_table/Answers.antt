use Rattle.std.proofs.Common.{◌∙◌, ap, length, subst}
use Rattle.lsdb.specs.Lists.{Lists}
use Rattle.area_routes.specs.Attached.{attached_areas}
use Rattle.edit_history.specs.Session.{Session, state}
use Rattle.recalculate.specs.CallsForTables.{CountsTrees}
use Rattle.recalculate.proofs.Caches.{all_back}
use Rattle.recalculate.proofs.Calculated.{trees_counted}
use Rattle.recalculate.proofs.study.Study.base_table.Goals as goal

pub returns-in-Some-clause-trees : goal.returns-in-Some-clause-trees
returns-in-Some-clause-trees g c =
    subst (λ (db : Lists). CountsTrees (length (attached_areas db c.args.router)) c.table_of.result c.args.meter.now c.table_of.new.meter)
    c.in-Some.ensures
    (trees_counted _ c.table_of.result _ _ c.table_of.ensures.meter c.table_of.ensures.no_router c.table_of.ensures.at_most)

pub returns-clause-trees : goal.returns-clause-trees
returns-clause-trees g c =
    subst (λ (db : Lists). CountsTrees (length (attached_areas db c.args.router)) c.table_of-table.result c.args.meter.now c.table_of-table.new.meter)
    (c.database-database.ensures.state ∙ ap (λ (s : Session). state s) c.undo_all-done.ensures.session ∙ all_back c.args.self.now)
    (trees_counted _ c.table_of-table.result _ _ c.table_of-table.ensures.meter c.table_of-table.ensures.no_router c.table_of-table.ensures.at_most)
