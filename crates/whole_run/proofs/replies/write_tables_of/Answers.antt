use Rattle.std.proofs.Common.{◌∙◌, ap, get_or, rules}
use Rattle.lsa_codec.specs.declared.address.RouterId.{RouterId}
use Rattle.edit_history.specs.Session.{state}
use Rattle.branches.specs.Branches.{Sessions, sessions_of}
use Rattle.branches.specs.Replies.{router_text}
use Rattle.whole_run.proofs.TableParts.{one_begun, one_written}
use Rattle.whole_run.proofs.replies.write_tables_of.Goals as goal

pub loop-router-preserved : goal.loop-router-preserved
loop-router-preserved g c =
    let blank : RouterId = record { 0 = 0 } in
    let i = c.loop-router.router-index in
    let router = get_or c.args.routers.now i blank in
    record {
      still_open = search rules;
      kept = c.write_table.ensures.kept ∙ c.loop-router.invariant.kept;
      written = one_written (router_text (state (sessions_of c.args.branches.now c.args.branch))) c.args.routers.now i blank
          c.loop-router-test.true _ _ _ _
          (ap (λ (all : Sessions). router_text (state (all c.args.branch)) router) c.loop-router.invariant.kept)
          c.loop-router.invariant.written c.in_ok-write_table.ensures.whole;
    }

pub returns-in_err-write_table-clause-prefix : goal.returns-in_err-write_table-clause-prefix
returns-in_err-write_table-clause-prefix g c =
    let blank : RouterId = record { 0 = 0 } in
    let i = c.loop-router.router-index in
    let router = get_or c.args.routers.now i blank in
    one_begun (router_text (state (sessions_of c.args.branches.now c.args.branch))) c.args.routers.now i blank
    c.loop-router-test.true _ _ _ _
    (ap (λ (all : Sessions). router_text (state (all c.args.branch)) router) c.loop-router.invariant.kept)
    c.loop-router.invariant.written c.write_table.ensures.prefix
