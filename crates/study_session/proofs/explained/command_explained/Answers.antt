use Rattle.std.proofs.Common.{◌≡◌, IfOk, ap, subst, sym}
use Rattle.edit_history.specs.Session.{Session}
use Rattle.branches.specs.Branches.{sessions_of}
use Rattle.branches.specs.Replies.{Said, refusal_texts, said_by}
use Rattle.refusal_hints.specs.CommandHints.{command_hint}
use Rattle.study_session.specs.Contexts.{context_of, situation}
use Rattle.study_session.specs.Explained.{command_explained, edit_fault, refused_with}
use Rattle.study_session.proofs.Hinted.{by_session}
use Rattle.study_session.proofs.explained.command_explained.Goals as goal

pub returns-clause-answer : goal.returns-clause-answer
unfolding command_explained
returns-clause-answer g c =
    let x = context_of c.args.context.now in
    let all = sessions_of c.args.branches.now in
    subst (λ (said : Said). IfOk c.command_refused.result (λ it. it ≡ command_explained x (all x.branch) c.args.command.now said c.args.answer))
    (ap said_by (sym c.in-Refused.is))
    (by_session x all (sessions_of c.prepare.new.self) c.in_ok-prepare.ensures.kept c.planner-planner.result.now.session c.planner-planner.ensures
    c.command_refused.result
    (λ (s : Session). refused_with x (refusal_texts c.in-Refused.why)
    (command_hint (situation x s) x.words c.args.command.now (edit_fault c.in-Refused.why)) c.args.answer)
    c.command_refused.ensures)
