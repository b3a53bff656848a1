use Rattle.edit_history.proofs.HistoryLemmas.{done_len, undone_len, opened_session, edited_accepted, edited_refused, edited_full}
use Rattle.edit_history.proofs.laws.histories_show_sessions.Goals as goal

pub returns : goal.returns
returns c = record {
  done = done_len;
  undone = undone_len;
  opened = opened_session;
  edited = edited_accepted;
  refused = edited_refused;
  full = edited_full;
}
