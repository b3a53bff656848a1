use Rattle.std.proofs.Common.{subst, sym}
use Rattle.std.proofs.lemmas.Result.{err_from_is_err_and}
use Rattle.lsdb.specs.Slots.{lists_of}
use Rattle.routing_table.specs.AreasTrees.{routers_of}
use Rattle.routing_table.specs.declared.table.TableFault.TheVariants.{OutOfMemory}
use Rattle.routing_table.proofs.TableLemmas.{no_memory}
use Rattle.recalculate.specs.CallsForTables.{CalculatesSome, CalculatesTrees}
use Rattle.recalculate.specs.Planning.{CacheValue, IsCacheOf}
use Rattle.recalculate.proofs.Caches.{with_more}
use Rattle.recalculate.proofs.Calculated.{all_in, some_in, within_kept}
use Rattle.recalculate.proofs.table_cache.TableCache.table_of.Goals as goal

pub returns-in_err-results-clause-table : goal.returns-in_err-results-clause-table
returns-in_err-results-clause-table g c =
    let gave = err_from_is_err_and c.from_residual.result c.from_residual.ensures.1 in
    rw (gave.1, gave.2)
    (record { found = tt; fault = no_memory (lists_of c.args.database.now) c.args.router c.in_err-results.ensures.memory })

pub returns-in_err-results-clause-trees : goal.returns-in_err-results-clause-trees
returns-in_err-results-clause-trees g c =
    let gave = err_from_is_err_and c.from_residual.result c.from_residual.ensures.1 in
    rw (gave.1, gave.2)
    (subst (λ (v : CacheValue). CalculatesSome (lists_of c.args.database.now) c.args.router OutOfMemory
    (routers_of v.trees, c.args.meter.now) (routers_of c.results_of.new.self, c.results_of.new.meter)) c.self.view_is
    (some_in (lists_of c.args.database.now) c.args.router c.self.inside.trees c.results_of.new.self c.args.meter.now c.results_of.new.meter
    c.results_of.ensures.at_most c.results_of.ensures.keeps c.results_of.ensures.no_more))

pub returns-in_err-results-clause-cache : goal.returns-in_err-results-clause-cache
returns-in_err-results-clause-cache g c =
    let was = subst (λ (v : CacheValue). IsCacheOf (lists_of c.args.database.now) v) (sym c.self.view_is) c.requires in
    with_more (lists_of c.args.database.now) c.self.inside.trees c.results_of.new.self c.self.inside.externals c.self.inside.externals _
    c.results_of.ensures.graphs (within_kept c.self.inside.trees c.results_of.new.self c.results_of.ensures.keeps) was.externals was

pub returns-clause-trees : goal.returns-clause-trees
returns-clause-trees g c =
    subst (λ (v : CacheValue). CalculatesTrees (lists_of c.args.database.now) c.args.router c.table_from.result
    (routers_of v.trees, c.args.meter.now) (routers_of c.results_of.new.self, c.results_of.new.meter)) c.self.view_is
    (all_in (lists_of c.args.database.now) c.args.router c.self.inside.trees c.results_of.new.self c.args.meter.now c.results_of.new.meter
    c.table_from.result c.in_ok-results.ensures.meter c.in_ok-results.ensures.grown c.results_of.ensures.keeps c.results_of.ensures.no_more
    c.table_from.ensures.no_router)

pub returns-clause-cache : goal.returns-clause-cache
returns-clause-cache g c =
    let was = subst (λ (v : CacheValue). IsCacheOf (lists_of c.args.database.now) v) (sym c.self.view_is) c.requires in
    with_more (lists_of c.args.database.now) c.self.inside.trees c.results_of.new.self c.self.inside.externals c.table_from.new.lsas _
    c.results_of.ensures.graphs (within_kept c.self.inside.trees c.results_of.new.self c.results_of.ensures.keeps) c.table_from.ensures.lsas was
