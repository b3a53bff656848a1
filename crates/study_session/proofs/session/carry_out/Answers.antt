use Rattle.std.proofs.Common.{ap}
use Rattle.branches.specs.Branches.{sessions_of}
use Rattle.study_script.specs.Line.{asked}
use Rattle.study_session.specs.Contexts.{context_of}
use Rattle.study_session.specs.Lines.{IsAnswerIn, sessions_in}
use Rattle.study_session.specs.NamedCommands.{named_stepped}
use Rattle.study_session.proofs.Carried.{answered, left, left_by}
use Rattle.study_session.proofs.LinkEdits.{if_ok}
use Rattle.study_session.proofs.session.carry_out.Goals as goal

pub returns-in-Plan : goal.returns-in-Plan
unfolding IsAnswerIn sessions_in named_stepped
returns-in-Plan g c = record {
  answer = answered (context_of c.args.context.now) (sessions_of c.args.branches.now c.args.context.now.branch) c.named.result
      (ap asked c.in-Plan.is) c.named.ensures.answer;
  sessions = left c.args.context.now.branch (sessions_of c.args.branches.now) (sessions_of c.named.new.branches) c.named.result
      (ap asked c.in-Plan.is) c.named.ensures.sessions;
}

pub returns-in-Named : goal.returns-in-Named
unfolding IsAnswerIn sessions_in
returns-in-Named g c = record {
  answer = answered (context_of c.args.context.now) (sessions_of c.args.branches.now c.args.context.now.branch) c.named-in-Named.result
      (ap asked c.in-Named.is) c.named-in-Named.ensures.answer;
  sessions = left c.args.context.now.branch (sessions_of c.args.branches.now) (sessions_of c.named-in-Named.new.branches) c.named-in-Named.result
      (ap asked c.in-Named.is) c.named-in-Named.ensures.sessions;
}

-- questions and expectations leave the sessions as they were
pub returns-in-See : goal.returns-in-See
unfolding IsAnswerIn sessions_in
returns-in-See g c = record {
  answer = answered (context_of c.args.context.now) (sessions_of c.args.branches.now c.args.context.now.branch) c.seen.result
      (ap asked c.in-See.is) c.seen.ensures.answer;
  sessions = if_ok c.seen.result (left_by c.args.context.now.branch (sessions_of c.args.branches.now) (sessions_of c.seen.new.branches)
      (ap asked c.in-See.is) c.seen.ensures.kept);
}

pub returns-in-Expect : goal.returns-in-Expect
unfolding IsAnswerIn sessions_in
returns-in-Expect g c = record {
  answer = answered (context_of c.args.context.now) (sessions_of c.args.branches.now c.args.context.now.branch) c.expected.result
      (ap asked c.in-Expect.is) c.expected.ensures.answer;
  sessions = if_ok c.expected.result (left_by c.args.context.now.branch (sessions_of c.args.branches.now) (sessions_of c.expected.new.branches)
      (ap asked c.in-Expect.is) c.expected.ensures.kept);
}
