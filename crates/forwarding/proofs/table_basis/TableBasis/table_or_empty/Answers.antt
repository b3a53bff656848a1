use Rattle.std.proofs.Common.{◌∙◌, ap, subst}
use Rattle.lsdb.specs.Slots.{lists_of}
use Rattle.routing_table.specs.declared.table.TableFault.{TableFault}
use Rattle.routing_table.specs.Tables.{FaultMeans, TableValue, table_in}
use Rattle.forwarding.proofs.TableRoutes.{router_of_table, routes_of_none, routes_of_table}
use Rattle.forwarding.proofs.table_basis.TableBasis.table_or_empty.Goals as goal
use Rattle.forwarding.proofs.table_basis.TableBasis.table_or_empty.Goals.{in-Ok, in-Err-NoRouter, in-Err-OutOfMemory}

pub returns-clause-router : goal.returns-clause-router
returns-clause-router g c =
    elim c.match-table_from.branch [
      | in-Ok w ↦ rw w.result-is (router_of_table (lists_of c.args.database.now) c.args.router w.in-Ok.table w.in-Ok.ensures.table)
      | in-Err-NoRouter w ↦ rw w.result-is (ap (λ (t : TableValue). t.router) w.empty.ensures)
      | in-Err-OutOfMemory w ↦ rw w.result-is tt
    ]

pub returns-clause-routes : goal.returns-clause-routes
returns-clause-routes g c =
    elim c.match-table_from.branch [
      | in-Ok w ↦ rw w.result-is (routes_of_table (lists_of c.args.database.now) c.args.router w.in-Ok.table w.in-Ok.ensures.table)
      | in-Err-NoRouter w ↦ rw w.result-is
          (ap (λ (t : TableValue). t.routes) w.empty.ensures
          ∙ routes_of_none (lists_of c.args.database.now) c.args.router
          (subst (λ (fault : TableFault). FaultMeans (table_in (lists_of c.args.database.now) c.args.router) fault) w.in-Err-NoRouter.field-0-is w.in-Err-NoRouter.ensures.fault))
      | in-Err-OutOfMemory w ↦ rw w.result-is tt
    ]
