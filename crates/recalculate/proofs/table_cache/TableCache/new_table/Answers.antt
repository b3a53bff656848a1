use Rattle.std.proofs.Common.{◌∙◌, Some, ap, subst, sym}
use Rattle.std.proofs.lemmas.Result.{err_from_is_err_and}
use Rattle.lsa_codec.specs.declared.address.RouterId.{RouterId}
use Rattle.lsdb.specs.Slots.{lists_of}
use Rattle.routing_table.specs.AreasTrees.{routers_of}
use Rattle.routing_table.specs.Tables.{TableValue}
use Rattle.routing_table.specs.declared.table.TableFault.TheVariants.{OutOfMemory}
use Rattle.recalculate.specs.Asking.{HasTrees}
use Rattle.recalculate.specs.CallsForTables.{CalculatesSome}
use Rattle.recalculate.specs.Planning.{CacheValue, IsCacheOf}
use Rattle.recalculate.proofs.Caches.{named, with_table, without_table}
use Rattle.recalculate.proofs.Calculated.{until_memory}
use Rattle.recalculate.proofs.table_cache.TableCache.new_table.Goals as goal

pub table_of-requires : goal.table_of-requires
table_of-requires g c =
    without_table (lists_of c.args.database.now) c.self.inside.trees c.self.inside.externals _
    (subst (λ (v : CacheValue). IsCacheOf (lists_of c.args.database.now) v) (sym c.self.view_is) c.requires)

pub returns-in_err-table-2-clause-trees : goal.returns-in_err-table-2-clause-trees
returns-in_err-table-2-clause-trees g c =
    let gave = err_from_is_err_and c.from_residual-in_err-table-2.result c.from_residual-in_err-table-2.ensures.1 in
    rw (gave.1, gave.2)
    (subst (λ (v : CacheValue). CalculatesSome (lists_of c.args.database.now) c.args.router OutOfMemory
    (routers_of v.trees, c.args.meter.now) (routers_of c.table_of.new.self.trees, c.table_of.new.meter)) c.self.view_is
    (until_memory (lists_of c.args.database.now) c.args.router _ _ c.in_ok-table.ensures.trees))

pub returns-clause-cache : goal.returns-clause-cache
returns-clause-cache g c =
    let db = lists_of c.args.database.now in
    let was = subst (λ (v : CacheValue). IsCacheOf db v) (sym c.self-2.view_is) c.table_of.ensures.cache in
    let there = subst (λ (v : CacheValue). HasTrees db c.args.router (routers_of v.trees)) (sym c.self-2.view_is) c.in_ok-table.ensures.trees.all in
    subst (λ (t : TableValue). IsCacheOf db (record { trees = c.self-2.inside.trees; externals = c.self-2.inside.externals; table = Some t }))
    (sym c.in_ok-table-2.ensures ∙ sym c.in_ok-clone.ensures.cases)
    (with_table db c.args.router c.in_ok-table.table _ c.in_ok-table.ensures.table.found there was)

pub returns-clause-last : goal.returns-clause-last
returns-clause-last g c =
    ap (λ (t : TableValue). Some t.router) (sym (sym c.in_ok-table-2.ensures ∙ sym c.in_ok-clone.ensures.cases))
    ∙ ap (λ (r : RouterId). Some r) (named (lists_of c.args.database.now) c.args.router c.in_ok-table.table c.in_ok-table.ensures.table.found)
