use Rattle.edit_history.proofs.HistoryLemmas.{start_linked, pushed_linked, opened_linked}
use Rattle.edit_history.proofs.laws.histories_are_linked.Goals as goal

pub returns : goal.returns
returns c = record { start = start_linked; pushed = pushed_linked; opened = opened_linked }
