use Rattle.std.proofs.Common.{ap, ◌∙◌}
use Rattle.edit_history.proofs.HistoryLemmas.{pushed}
use Rattle.test_databases.proofs.Pushed.{pushed_links, pushed_session}
use Rattle.test_databases.proofs.edited.apply_and_push.Goals as goal

pub returns-clause-linked : goal.returns-clause-linked
returns-clause-linked g c =
    pushed_links c.args.database.now c.apply.new.database c.args.history.now.lists _ c.args.edit.now c.in_ok-record.«record» c.requires
    c.assert_valid.ensures c.in_ok-record.ensures.applied (c.push.ensures ∙ ap (pushed c.in_ok-record.«record») c.reserve.ensures.lists)

pub returns-clause-session : goal.returns-clause-session
returns-clause-session g c =
    pushed_session c.args.database.now c.apply.new.database c.args.history.now.lists _ c.args.edit.now c.in_ok-record.«record» c.requires
    c.assert_valid.ensures c.in_ok-record.ensures.applied (c.push.ensures ∙ ap (pushed c.in_ok-record.«record») c.reserve.ensures.lists)
