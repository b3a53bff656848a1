use Rattle.whole_run.proofs.BranchesApart.{answers_alone, session_alone}
use Rattle.whole_run.proofs.laws.branches_are_apart.Goals as goal

pub returns-clause-answers : goal.returns-clause-answers
returns-clause-answers c = answers_alone

pub returns-clause-session : goal.returns-clause-session
returns-clause-session c = session_alone
