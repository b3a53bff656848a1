use Rattle.branches.proofs.PlannersByNumber.{absent, session_of_first, session_of_named}
use Rattle.branches.proofs.branches.Branches.planner.Goals as goal

pub returns-then-branch-eq0 : goal.returns-then-branch-eq0
returns-then-branch-eq0 g c = session_of_first c.self.inside.first c.self.inside.others.entries c.args.branch _ c.self.view_is c.if-branch-eq0.true

pub returns-in-Some : goal.returns-in-Some
returns-in-Some g c =
    session_of_named c.self.inside.first c.self.inside.others.entries c.args.branch _ c.self.view_is c.in-Some.planner.now
    c.if-branch-eq0.false c.in-Some.ensures.value

pub returns-in-None : goal.returns-in-None
returns-in-None g c =
    absurd (absent c.self.inside.first c.self.inside.others.entries c.args.branch _ c.self.view_is c.if-branch-eq0.false c.in-None.ensures.value c.requires)
