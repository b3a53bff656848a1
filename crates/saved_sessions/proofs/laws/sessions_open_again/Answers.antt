use Rattle.saved_sessions.proofs.SessionAgain.{session_again, dump_again, one_text}
use Rattle.saved_sessions.proofs.laws.sessions_open_again.Goals as goal

pub returns-clause-session : goal.returns-clause-session
returns-clause-session c = session_again c.base_laws.ensures.complete c.session_laws.ensures.short c.line_laws.ensures.again

pub returns-clause-dump : goal.returns-clause-dump
returns-clause-dump c = dump_again c.text_laws.ensures.complete

pub returns-clause-one_text : goal.returns-clause-one_text
returns-clause-one_text c = one_text (returns-clause-session c)
