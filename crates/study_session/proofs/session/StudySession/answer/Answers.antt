use Rattle.std.proofs.Common.{ap, ◌∙◌}
use Rattle.network_names.specs.Names.{stands_for}
use Rattle.branches.specs.Branches.{Sessions}
use Rattle.study_arguments.specs.Fault.{fault_at}
use Rattle.study_script.specs.Line.{asked, meaning}
use Rattle.study_session.specs.Lines.{IsAnswerTo, after_line}
use Rattle.study_session.specs.Studies.{study_by, study_of}
use Rattle.study_session.proofs.Carried.{fault_after, fault_answered, none_after, none_answered, some_after, some_answered}
use Rattle.study_session.proofs.session.StudySession.answer.Goals as goal

-- a line without words, or a comment
pub returns-in-Ok-None-clause-answer : goal.returns-in-Ok-None-clause-answer
unfolding IsAnswerTo study_of
returns-in-Ok-None-clause-answer g c =
    none_answered (study_of c.args.self.now) (meaning (stands_for c.args.self.now.names) c.args.line.now) c.args.line.now
    (rw c.in-Ok-None.field-0-is at c.in-Ok-None.ensures.value)

pub returns-in-Ok-None-clause-study : goal.returns-in-Ok-None-clause-study
unfolding after_line study_of
returns-in-Ok-None-clause-study g c =
    ap (λ (all : Sessions). study_by all c.args.self.now.baseline c.args.self.now.names c.args.self.now.is_verbose c.args.self.now.format)
    (none_after (study_of c.args.self.now) (meaning (stands_for c.args.self.now.names) c.args.line.now)
    (rw c.in-Ok-None.field-0-is at c.in-Ok-None.ensures.value))

-- something is asked for in a branch
pub returns-in_ok-answer-in-Ok-Some-clause-answer : goal.returns-in_ok-answer-in-Ok-Some-clause-answer
unfolding IsAnswerTo study_of
returns-in_ok-answer-in-Ok-Some-clause-answer g c =
    some_answered (study_of c.args.self.now) (meaning (stands_for c.args.self.now.names) c.args.line.now)
    c.in-Ok-Some.branch (asked c.in-Ok-Some.command) (rw c.in-Ok-Some.field-0-is at c.in-Ok-Some.ensures.value)
    c.args.line.now _ c.in_ok-answer-in-Ok-Some.ensures.answer

pub returns-in_ok-answer-in-Ok-Some-clause-study : goal.returns-in_ok-answer-in-Ok-Some-clause-study
unfolding after_line study_of
returns-in_ok-answer-in-Ok-Some-clause-study g c =
    ap (λ (all : Sessions). study_by all c.args.self.now.baseline c.args.self.now.names c.args.self.now.is_verbose c.args.self.now.format)
    (c.in_ok-answer-in-Ok-Some.ensures.sessions
    ∙ some_after (study_of c.args.self.now) (meaning (stands_for c.args.self.now.names) c.args.line.now)
    c.in-Ok-Some.branch (asked c.in-Ok-Some.command) (rw c.in-Ok-Some.field-0-is at c.in-Ok-Some.ensures.value))

-- the line has a fault
pub returns-in_ok-faulty-in-Err-Fault-clause-answer : goal.returns-in_ok-faulty-in-Err-Fault-clause-answer
unfolding IsAnswerTo study_of
returns-in_ok-faulty-in-Err-Fault-clause-answer g c =
    fault_answered (study_of c.args.self.now) (meaning (stands_for c.args.self.now.names) c.args.line.now)
    (fault_at c.in-Err-Fault.fault) (rw c.in-Err-Fault.field-0-is at c.in-Err-Fault.ensures.value)
    c.args.line.now _ c.in_ok-faulty-in-Err-Fault.ensures

pub returns-in_ok-faulty-in-Err-Fault-clause-study : goal.returns-in_ok-faulty-in-Err-Fault-clause-study
unfolding after_line study_of
returns-in_ok-faulty-in-Err-Fault-clause-study g c =
    ap (λ (all : Sessions). study_by all c.args.self.now.baseline c.args.self.now.names c.args.self.now.is_verbose c.args.self.now.format)
    (fault_after (study_of c.args.self.now) (meaning (stands_for c.args.self.now.names) c.args.line.now)
    (fault_at c.in-Err-Fault.fault) (rw c.in-Err-Fault.field-0-is at c.in-Err-Fault.ensures.value))
