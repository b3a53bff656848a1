use Rattle.std.proofs.Common.{refl, ◌∙◌}
use Rattle.std.specs.Prelude.{option_map}
use Rattle.branches.specs.Branches.{sessions_of}
use Rattle.branches.specs.Replies.{said_by}
use Rattle.study_session.specs.Contexts.{context_of}
use Rattle.study_session.specs.PlanAnswers.{answer_by, command_answer}
use Rattle.study_session.proofs.Explaining.{explained_before}
use Rattle.study_session.proofs.LinkEdits.{if_ok}
use Rattle.study_session.proofs.plan.plan.Goals as goal

pub returns-clause-answer : goal.returns-clause-answer
unfolding command_answer
returns-clause-answer g c =
    let change = option_map (λ text. text.items) c.args.change in
    let said = said_by c.in_ok-reply.reply in
    let x = context_of c.args.context.now in
    explained_before c.refused_commands_change_nothing.ensures x (sessions_of c.args.branches.now) (sessions_of c.step.new.self)
    c.args.command.now c.in_ok-reply.ensures.step.sessions c.replied.result (answer_by x change) said
    (answer_by x change said) c.in_ok-reply.ensures.step.reply refl c.replied.ensures.answer

pub returns-clause-sessions : goal.returns-clause-sessions
returns-clause-sessions g c = if_ok c.replied.result (c.replied.ensures.kept ∙ c.in_ok-reply.ensures.step.sessions)
