use Rattle.std.proofs.Common.{◌≡◌, ◌∙◌, ap, length, rules}
use Rattle.std.proofs.lemmas.Result.{on_ok_weaker}
use Rattle.edit_history.specs.Session.{state}
use Rattle.branches.specs.Branches.{Named, sessions_of}
use Rattle.branches.specs.Replies.{router_texts, tables_head}
use Rattle.whole_run.proofs.TableParts.{head_begun, rest_begun, rest_written}
use Rattle.whole_run.proofs.replies.write_tables.Goals as goal

pub returns-in_err-write_whole-clause-prefix : goal.returns-in_err-write_whole-clause-prefix
returns-in_err-write_whole-clause-prefix g c =
    let same : c.as_bytes.result.now ≡ tables_head c.args.branch (length c.in_ok-routers.routers.items) = search rules in
    head_begun _ _ _ _ c.in_ok-routers.ensures.reply same _ _ c.write_whole.ensures.prefix

pub returns-clause-whole : goal.returns-clause-whole
returns-clause-whole g c =
    let same : c.as_bytes.result.now ≡ tables_head c.args.branch (length c.in_ok-routers.routers.items) = search rules in
    on_ok_weaker _ (rest_written _ _ _ _ c.in_ok-routers.ensures.reply same _
    (ap (λ (n : Named). router_texts (state (sessions_of n c.args.branch)) c.deref.result.now) c.routers.ensures.kept
    ∙ ap (router_texts (state (sessions_of c.args.branches.now c.args.branch))) c.deref.ensures.value)
    _ _ _ c.in_ok-write_whole.ensures.whole)
    c.write_tables_of.ensures.whole

pub returns-clause-prefix : goal.returns-clause-prefix
returns-clause-prefix g c =
    let same : c.as_bytes.result.now ≡ tables_head c.args.branch (length c.in_ok-routers.routers.items) = search rules in
    rest_begun _ _ _ _ c.in_ok-routers.ensures.reply same _
    (ap (λ (n : Named). router_texts (state (sessions_of n c.args.branch)) c.deref.result.now) c.routers.ensures.kept
    ∙ ap (router_texts (state (sessions_of c.args.branches.now c.args.branch))) c.deref.ensures.value)
    _ _ _ c.in_ok-write_whole.ensures.whole c.write_tables_of.ensures.prefix
