use Rattle.std.proofs.Common.{◌≡◌, ◌-◌, ◌<◌, length, vec_len, ap, arith, rules}
use Rattle.edit_history.specs.Journal.{HistoryRoom}
use Rattle.edit_history.proofs.Cursor.{seen, past_len}
use Rattle.edit_history.proofs.HistorySteps.{back_turn}
use Rattle.edit_history.proofs.history.History.step_back.Goals as goal

pub returns : goal.returns
returns g c =
    let items = c.self.inside.records.items in
    let cursor = c.self.inside.cursor in
    let sized : vec_len c.self.inside.records ≡ length items = search rules in
    let view : seen items cursor ≡ c.args.self.now.lists = ap (λ (v : HistoryRoom). v.lists) c.self.view_is in
    let some : 0 < cursor = past_len items cursor c.args.self.now.lists view c.requires.some in
    rw (c.revert.ensures.database, c.revert.ensures.taken)
    (back_turn c.args.database.now c.args.self.now.lists items (cursor - 1) cursor c.index_mut-record.result.now view
    (omega arith) (omega arith) c.index_mut-record.ensures.value c.requires.linked)
