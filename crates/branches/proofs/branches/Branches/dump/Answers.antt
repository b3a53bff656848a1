use Rattle.std.proofs.Common.{◌≡◌, ◌∙◌, IfOk, subst}
use Rattle.lsdb.specs.Text.{text}
use Rattle.edit_history.specs.Session.{Session, state}
use Rattle.branches.proofs.PlannersByNumber.{session_of_named, session_of_unnamed}
use Rattle.branches.proofs.branches.Branches.dump.Goals as goal

pub returns-in-Some-clause-dump : goal.returns-in-Some-clause-dump
returns-in-Some-clause-dump g c =
    subst (λ (s : Session). IfOk c.dump-in-Some.result (λ dump. dump.items ≡ text (state s)))
    (session_of_named c.self.inside.first c.self.inside.others.entries c.args.branch _ c.self.view_is c.in-Some.planner.now
    c.if-branch-eq0.false c.in-Some.ensures.value)
    c.dump-in-Some.ensures

pub returns-in_ok-begun-in-None-clause-dump : goal.returns-in_ok-begun-in-None-clause-dump
returns-in_ok-begun-in-None-clause-dump g c =
    subst (λ (s : Session). IfOk c.dump-in-None-2.result (λ dump. dump.items ≡ text (state s)))
    (c.in_ok-begun-in-None.ensures.begun
    ∙ session_of_unnamed c.self.inside.first c.self.inside.others.entries c.args.branch _ c.self.view_is c.if-branch-eq0.false c.in-None.ensures.value)
    c.dump-in-None-2.ensures
