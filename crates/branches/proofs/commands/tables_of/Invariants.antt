use Rattle.std.proofs.Common.{◌≡◌, take}
use Rattle.std.specs.List.{filter_map}
use Rattle.edit_history.specs.Session.{state}
use Rattle.routing_table.specs.Tables.{table_in}
use Rattle.branches.proofs.commands.tables_of.Given as goal

-- the tables are those of the routers so far, and the session is as it was
abbrev pub invariant-loop-router : goal.invariant-loop-router
invariant-loop-router g l = record {
  kept : l.planner.session ≡ l.initial.planner.session;
  tables : l.tables.items ≡ filter_map (table_in (state l.initial.planner.session)) (take l.router-index l.routers);
}
