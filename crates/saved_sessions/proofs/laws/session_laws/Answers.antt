use Rattle.saved_sessions.proofs.SessionParts.{one_session}
use Rattle.saved_sessions.proofs.ShortLines.{short_session}
use Rattle.saved_sessions.proofs.laws.session_laws.Goals as goal

pub returns-clause-one_text : goal.returns-clause-one_text
returns-clause-one_text c = one_session c.base_laws.ensures.complete c.line_laws.ensures.again

pub returns-clause-short : goal.returns-clause-short
returns-clause-short c = λ base done undone. short_session base done undone (c.base_laws.ensures.length base)
