use Rattle.std.proofs.Common.{◌≡◌, ◌+◌, ◌<◌, length, vec_len, ap, arith, rules}
use Rattle.edit_history.specs.Journal.{HistoryRoom}
use Rattle.edit_history.proofs.Cursor.{seen, future_len}
use Rattle.edit_history.proofs.HistorySteps.{on_turn}
use Rattle.edit_history.proofs.history.History.step_on.Goals as goal

pub returns : goal.returns
returns g c =
    let items = c.self.inside.records.items in
    let cursor = c.self.inside.cursor in
    let sized : vec_len c.self.inside.records ≡ length items = search rules in
    let view : seen items cursor ≡ c.args.self.now.lists = ap (λ (v : HistoryRoom). v.lists) c.self.view_is in
    let some : cursor < length items = future_len items cursor c.args.self.now.lists view c.requires.some in
    rw (c.replay.ensures.database, c.replay.ensures.taken)
    (on_turn c.args.database.now c.args.self.now.lists items cursor (cursor + 1) c.index_mut-record.result.now view
    (omega arith) some c.index_mut-record.ensures.value c.requires.linked)
