use Rattle.std.proofs.Common.{◌∙◌, ap, get_or}
use Rattle.lsa_codec.specs.declared.address.RouterId.{RouterId}
use Rattle.edit_history.specs.Session.{Session, state}
use Rattle.routing_table.specs.Tables.{table_in}
use Rattle.branches.proofs.AllTables.{one_more, all_taken}
use Rattle.branches.proofs.commands.tables_of.Goals as goal

pub loop-router-preserved : goal.loop-router-preserved
loop-router-preserved g c =
    let blank : RouterId = record { 0 = 0 } in
    record {
      kept = c.table_now.ensures.kept ∙ c.loop-router.invariant.kept;
      tables = one_more (table_in (state c.args.planner.now.session)) c.args.routers.now c.loop-router.router-index
          blank c.loop-router.tables.items c.add_table.new.tables.items c.in_ok-table_now.field-0
          c.loop-router-test.true c.loop-router.invariant.tables
          (c.in_ok-table_now.ensures.table
          ∙ ap (λ (s : Session). table_in (state s) (get_or c.args.routers.now c.loop-router.router-index blank)) c.loop-router.invariant.kept)
          c.in_ok-add_table.ensures;
    }

pub returns-clause-tables : goal.returns-clause-tables
returns-clause-tables g c =
    all_taken (table_in (state c.args.planner.now.session)) c.args.routers.now c.loop-router.router-index
    c.loop-router.tables.items c.loop-router-test.false c.loop-router.invariant.tables
