use Rattle.std.proofs.Common.{IfSome, subst}
use Rattle.edit_history.specs.Session.{state}
use Rattle.recalculate.specs.Planning.{IsTableOver, PlannerValue}
use Rattle.recalculate.proofs.Caches.{over_by}
use Rattle.recalculate.proofs.planner.Planner.last_table_of.Goals as goal

pub returns-clause-table : goal.returns-clause-table
returns-clause-table g c =
    subst (λ (p : PlannerValue). IfSome c.kept_table.result (λ table. IsTableOver (state p.session) p.kept c.args.router table.now.value)) c.self.view_is
    (over_by (state c.self.inside.study) (λ table. table.now.value) c.args.router c.self.inside.present c.kept_table.result
    c.kept_table.ensures.table c.self.invariant.present)
