use Rattle.std.proofs.Common.{◌≡◌, Some, IfSome, subst}
use Rattle.recalculate.specs.Planning.{IsTableOver, PlannerValue}
use Rattle.recalculate.proofs.Caches.{over_by}
use Rattle.recalculate.proofs.planner.Planner.first_table_of.Goals as goal

pub returns-clause-table : goal.returns-clause-table
returns-clause-table g c =
    subst (λ (p : PlannerValue). IfSome c.kept_table.result (λ table. IsTableOver p.session.base p.first_kept c.args.router table.now.value)) c.self.view_is
    (over_by c.self.inside.study.base (λ table. table.now.value) c.args.router c.self.inside.baseline c.kept_table.result
    c.kept_table.ensures.table c.self.invariant.baseline)

pub returns-clause-first : goal.returns-clause-first
returns-clause-first g c =
    subst (λ (p : PlannerValue). IfSome c.kept_table.result (λ table. p.tables.first ≡ Some c.args.router)) c.self.view_is c.kept_table.ensures.some
