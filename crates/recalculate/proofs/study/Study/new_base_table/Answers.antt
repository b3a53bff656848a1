use Rattle.std.proofs.Common.{◌∙◌, ap, subst}
use Rattle.lsdb.specs.Lists.{Lists}
use Rattle.edit_history.specs.Session.{Session, state}
use Rattle.routing_table.specs.AreasTrees.{routers_of}
use Rattle.recalculate.specs.CallsForTables.{CalculatesTrees}
use Rattle.recalculate.specs.Planning.{IsCacheOf}
use Rattle.recalculate.proofs.Caches.{all_back}
use Rattle.recalculate.proofs.study.Study.new_base_table.Goals as goal

pub returns-clause-trees : goal.returns-clause-trees
returns-clause-trees g c =
    subst (λ (db : Lists). CalculatesTrees db c.args.router c.new_table-table.result (routers_of c.args.kept.now.trees, c.args.meter.now)
    (routers_of c.new_table-table.new.self.trees, c.new_table-table.new.meter))
    (c.database.ensures.state ∙ ap (λ (s : Session). state s) c.undo_all-done.ensures.session ∙ all_back c.keep_loaded.new.self
    ∙ ap (λ (s : Session). s.base) c.keep_loaded.ensures) c.new_table-table.ensures.trees

pub returns-clause-cache : goal.returns-clause-cache
returns-clause-cache g c =
    subst (λ (db : Lists). IsCacheOf db c.new_table-table.new.self)
    (c.database.ensures.state ∙ ap (λ (s : Session). state s) c.undo_all-done.ensures.session ∙ all_back c.keep_loaded.new.self
    ∙ ap (λ (s : Session). s.base) c.keep_loaded.ensures) c.new_table-table.ensures.cache

pub returns-in-Some-clause-trees : goal.returns-in-Some-clause-trees
returns-in-Some-clause-trees g c =
    subst (λ (db : Lists). CalculatesTrees db c.args.router c.new_table.result (routers_of c.args.kept.now.trees, c.args.meter.now)
    (routers_of c.new_table.new.self.trees, c.new_table.new.meter))
    (c.in-Some.ensures ∙ ap (λ (s : Session). s.base) c.keep_loaded.ensures) c.new_table.ensures.trees

pub returns-in-Some-clause-cache : goal.returns-in-Some-clause-cache
returns-in-Some-clause-cache g c =
    subst (λ (db : Lists). IsCacheOf db c.new_table.new.self)
    (c.in-Some.ensures ∙ ap (λ (s : Session). s.base) c.keep_loaded.ensures) c.new_table.ensures.cache
