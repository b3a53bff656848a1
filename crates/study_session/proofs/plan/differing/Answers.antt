use Rattle.std.proofs.Common.{ap, ◌∙◌}
use Rattle.lsdb.specs.Slots.{lists_of}
use Rattle.edit_script.specs.declared.command.Command.TheVariants as command
use Rattle.branches.specs.Branches.{sessions_of}
use Rattle.branches.specs.Replies.{said_by}
use Rattle.study_session.specs.Contexts.{context_of}
use Rattle.study_session.proofs.Differing.{differing, goes_on}
use Rattle.study_session.proofs.LinkEdits.{if_ok}
use Rattle.study_session.proofs.plan.differing.Goals as goal

pub returns-clause-answer : goal.returns-clause-answer
returns-clause-answer g c =
    differing c.refused_commands_change_nothing.ensures (context_of c.args.context.now) (command.Edit c.args.edit)
    (sessions_of c.args.branches.now) (sessions_of c.prepare.new.self) (sessions_of c.step.new.self) (sessions_of c.prepare-2.new.self)
    c.in_ok-prepare.ensures.kept c.in_ok-reply.ensures.step.sessions c.in_ok-prepare-2.ensures.kept c.replied.result
    _ _ _ _ (said_by c.in_ok-reply.reply) c.in_ok-change.change.items c.in_ok-change.ensures
    (ap lists_of c.in_ok-before.ensures ∙ c.database.ensures.state) c.planner.ensures c.database-now.ensures.state c.planner-2.ensures
    c.in_ok-reply.ensures.step.reply c.replied.ensures.answer

pub returns-clause-sessions : goal.returns-clause-sessions
returns-clause-sessions g c =
    if_ok c.replied.result
    (c.replied.ensures.kept
    ∙ goes_on c.refused_commands_change_nothing.ensures (context_of c.args.context.now) (command.Edit c.args.edit)
    (sessions_of c.args.branches.now) (sessions_of c.prepare.new.self) (sessions_of c.step.new.self) (sessions_of c.prepare-2.new.self)
    c.in_ok-prepare.ensures.kept c.in_ok-reply.ensures.step.sessions c.in_ok-prepare-2.ensures.kept)
