use Rattle.branches.specs.Branches.{sessions_of}
use Rattle.study_session.specs.Contexts.{context_of}
use Rattle.study_session.specs.NamedCommands.{way_answer}
use Rattle.study_session.proofs.WaySteps.{named_as, steps_as, way_stepped}
use Rattle.study_session.proofs.named.named.Goals as goal

pub returns-in-Plain : goal.returns-in-Plain
unfolding way_answer way_stepped
returns-in-Plain g c = record {
  answer = named_as (context_of c.args.context.now) (sessions_of c.args.branches.now) c.args.command.now c.way_of.result c.way_of.ensures c.in-Plain.is
      c.plan.result c.plan.ensures.answer;
  sessions = steps_as (context_of c.args.context.now) (sessions_of c.args.branches.now) c.args.command.now c.way_of.result c.way_of.ensures c.in-Plain.is
      c.plan.result (sessions_of c.plan.new.branches) c.plan.ensures.sessions;
}

pub returns-in-Link : goal.returns-in-Link
unfolding way_answer way_stepped
returns-in-Link g c = record {
  answer = named_as (context_of c.args.context.now) (sessions_of c.args.branches.now) c.args.command.now c.way_of.result c.way_of.ensures c.in-Link.is
      c.edit_link.result c.edit_link.ensures.answer;
  sessions = steps_as (context_of c.args.context.now) (sessions_of c.args.branches.now) c.args.command.now c.way_of.result c.way_of.ensures c.in-Link.is
      c.edit_link.result (sessions_of c.edit_link.new.branches) c.edit_link.ensures.sessions;
}

pub returns-in-Differing : goal.returns-in-Differing
unfolding way_answer way_stepped
returns-in-Differing g c = record {
  answer = named_as (context_of c.args.context.now) (sessions_of c.args.branches.now) c.args.command.now c.way_of.result c.way_of.ensures c.in-Differing.is
      c.differing.result c.differing.ensures.answer;
  sessions = steps_as (context_of c.args.context.now) (sessions_of c.args.branches.now) c.args.command.now c.way_of.result c.way_of.ensures c.in-Differing.is
      c.differing.result (sessions_of c.differing.new.branches) c.differing.ensures.sessions;
}
