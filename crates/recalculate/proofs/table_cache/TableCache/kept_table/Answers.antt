use Rattle.std.proofs.Common.{◌≡◌, ◌∙◌, Option, Some, IfSome, ap, option_map, rules, subst, sym}
use Rattle.lsa_codec.specs.declared.address.RouterId.{RouterId}
use Rattle.routing_table.specs.AreasTrees.{routers_of}
use Rattle.routing_table.specs.Tables.{TableValue}
use Rattle.recalculate.specs.Planning.{CacheValue, IsCacheOf, IsTableOver, router_of}
use Rattle.recalculate.proofs.Caches.{kept_of}
use Rattle.recalculate.proofs.table_cache.TableCache.kept_table.Goals as goal

pub returns-in-Some-clause-table : goal.returns-in-Some-clause-table
returns-in-Some-clause-table g c = λ db all.
    let same : c.in-Some.table.value.router ≡ c.args.router = search rules in
    let was = subst (λ (v : CacheValue). IsCacheOf db v) (sym c.self.view_is) all in
    let there = subst (λ (o : Option TableValue). IfSome o (λ table. IsTableOver db (routers_of c.self.inside.trees) table.router table))
    (ap (option_map (λ table. table.value)) c.in-Some.is) was.table in
    subst (λ (v : CacheValue). IsTableOver db (routers_of v.trees) c.args.router c.in-Some.table.value) c.self.view_is
    (kept_of _ _ c.args.router c.in-Some.table.value same there)

pub returns-in-Some-clause-some : goal.returns-in-Some-clause-some
returns-in-Some-clause-some g c =
    let same : c.in-Some.table.value.router ≡ c.args.router = search rules in
    ap (λ (v : CacheValue). router_of v.table) (sym c.self.view_is)
    ∙ ap router_of (ap (option_map (λ table. table.value)) c.in-Some.is) ∙ ap (λ (r : RouterId). Some r) same
