use Rattle.std.proofs.Common.{ap, sym, subst, ◌∙◌}
use Rattle.std.specs.Prelude.{option_map}
use Rattle.lsdb.specs.Lists.{Lists}
use Rattle.lsdb.specs.Slots.{lists_of}
use Rattle.edit_history.specs.Session.{state}
use Rattle.branches.specs.Branches.{Sessions, before_last, sessions_of}
use Rattle.loop_report.specs.Loops.{AreJointLoops}
use Rattle.loop_report.specs.Parts.{AreAtAtoms}
use Rattle.study_answers.proofs.JointLoops.{are_some}
use Rattle.study_answers.proofs.may_loop.microloops_of.Goals as goal

pub returns-clause-loops : goal.returns-clause-loops
returns-clause-loops g c =
    are_some (state (sessions_of c.args.branches.now c.args.branch)) (lists_of c.in-Some.before)
    (before_last c.args.count (sessions_of c.args.branches.now c.args.branch)) c.in_ok-loops.loops.items
    (ap (option_map lists_of) (sym c.in-Some.is) ∙ c.in_ok-before.ensures.database)
    (subst (λ (db : Lists). AreAtAtoms AreJointLoops (lists_of c.in-Some.before) db c.in_ok-loops.loops.items)
    (c.database-now.ensures.state ∙ ap state (c.planner.ensures
    ∙ ap (λ (all : Sessions). all c.args.branch) (c.in_ok-prepare.ensures.kept ∙ c.in_ok-before.ensures.kept)))
    c.in_ok-loops.ensures)
