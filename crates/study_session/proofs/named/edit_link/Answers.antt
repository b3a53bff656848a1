use Rattle.std.proofs.Common.{◌≡◌, IfOk, OnOk, subst}
use Rattle.branches.specs.Branches.{Sessions, sessions_of}
use Rattle.study_answers.specs.Answers.{AnswerValue}
use Rattle.study_session.specs.Contexts.{context_of}
use Rattle.study_session.proofs.LinkEdits.{found_answer, found_stepped, if_ok, several_answer, several_stepped}
use Rattle.study_session.proofs.named.edit_link.Goals as goal

pub returns-in-Some-clause-answer : goal.returns-in-Some-clause-answer
returns-in-Some-clause-answer g c =
    subst (λ (answer : AnswerValue). IfOk c.plan.result (λ given. given ≡ answer))
    (found_answer (context_of c.args.context.now) c.args.place.0 c.args.place.1 c.args.place.2 c.args.edit
    (sessions_of c.args.branches.now) (sessions_of c.prepare.new.self) c.in_ok-prepare.ensures.kept
    c.planner-planner.result.now.session c.planner-planner.ensures c.in-Some.number c.command-command.result c.command-command.ensures
    (rw c.in-Some.is at c.in_ok-number.ensures.number)
    c.in-Some.change.items (rw c.in-Some.is at c.in_ok-number.ensures.change))
    c.plan.ensures.answer

pub returns-in-Some-clause-sessions : goal.returns-in-Some-clause-sessions
returns-in-Some-clause-sessions g c =
    subst (λ (sessions : Sessions). OnOk c.plan.result (sessions_of c.plan.new.branches ≡ sessions))
    (found_stepped (context_of c.args.context.now) c.args.place.0 c.args.place.1 c.args.place.2 c.args.edit
    (sessions_of c.args.branches.now) (sessions_of c.prepare.new.self) c.in_ok-prepare.ensures.kept
    c.planner-planner.result.now.session c.planner-planner.ensures c.in-Some.number c.command-command.result c.command-command.ensures
    (rw c.in-Some.is at c.in_ok-number.ensures.number))
    c.plan.ensures.sessions

pub returns-in-None-clause-answer : goal.returns-in-None-clause-answer
returns-in-None-clause-answer g c =
    subst (λ (answer : AnswerValue). IfOk c.many_links.result (λ given. given ≡ answer))
    (several_answer (context_of c.args.context.now) c.args.place.0 c.args.place.1 c.args.place.2 c.args.edit
    (sessions_of c.args.branches.now) (sessions_of c.prepare.new.self) c.in_ok-prepare.ensures.kept
    c.planner-planner.result.now.session c.planner-planner.ensures (rw c.in-None.is at c.in_ok-number.ensures.number))
    c.many_links.ensures

pub returns-in-None-clause-sessions : goal.returns-in-None-clause-sessions
returns-in-None-clause-sessions g c =
    if_ok c.many_links.result
    (several_stepped (context_of c.args.context.now) c.args.place.0 c.args.place.1 c.args.place.2 c.args.edit
    (sessions_of c.args.branches.now) (sessions_of c.prepare.new.self) c.in_ok-prepare.ensures.kept
    c.planner-planner.result.now.session c.planner-planner.ensures (rw c.in-None.is at c.in_ok-number.ensures.number))
