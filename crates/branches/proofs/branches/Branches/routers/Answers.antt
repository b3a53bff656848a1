use Rattle.std.proofs.Common.{◌≡◌, ◌∙◌, IfOk, ap, subst}
use Rattle.lsdb.specs.Lists.{Lists}
use Rattle.lsdb.specs.Slots.{lists_of}
use Rattle.edit_history.specs.Session.{Session, state}
use Rattle.routing_table.specs.Routers.{attached_routers}
use Rattle.branches.specs.Branches.{sessions_of}
use Rattle.branches.proofs.AllTables.{found_parts}
use Rattle.branches.proofs.PlannersByNumber.{session_of_first, session_of_named, session_of_unnamed}
use Rattle.branches.proofs.branches.Branches.routers.Goals as goal

-- branch 0

pub returns-then-branch-eq0-clause-reply : goal.returns-then-branch-eq0-clause-reply
returns-then-branch-eq0-clause-reply g c =
    found_parts c.args.branch (sessions_of c.args.self.now c.args.branch) (lists_of c.database.result.now) c.routers_with_table.result
    (c.database.ensures.state
    ∙ ap state (session_of_first c.self.inside.first c.self.inside.others.entries c.args.branch _ c.self.view_is c.if-branch-eq0.true))
    c.routers_with_table.ensures.routers c.routers_with_table.ensures.tables

-- a branch that has a planner

pub returns-in-Some-clause-routers : goal.returns-in-Some-clause-routers
returns-in-Some-clause-routers g c =
    subst (λ (db : Lists). IfOk c.routers_with_table-in-Some.result (λ routers. routers.items ≡ attached_routers db))
    (c.database-in-Some.ensures.state
    ∙ ap state (session_of_named c.self.inside.first c.self.inside.others.entries c.args.branch _ c.self.view_is c.in-Some.planner.now
    c.if-branch-eq0.false c.in-Some.ensures.value))
    c.routers_with_table-in-Some.ensures.routers

pub returns-in-Some-clause-reply : goal.returns-in-Some-clause-reply
returns-in-Some-clause-reply g c =
    found_parts c.args.branch (sessions_of c.args.self.now c.args.branch) (lists_of c.database-in-Some.result.now) c.routers_with_table-in-Some.result
    (c.database-in-Some.ensures.state
    ∙ ap state (session_of_named c.self.inside.first c.self.inside.others.entries c.args.branch _ c.self.view_is c.in-Some.planner.now
    c.if-branch-eq0.false c.in-Some.ensures.value))
    c.routers_with_table-in-Some.ensures.routers c.routers_with_table-in-Some.ensures.tables

-- a branch that has none

pub returns-in_ok-begun-in-None-clause-routers : goal.returns-in_ok-begun-in-None-clause-routers
returns-in_ok-begun-in-None-clause-routers g c =
    subst (λ (db : Lists). IfOk c.routers_with_table-in-None.result (λ routers. routers.items ≡ attached_routers db))
    (c.database-in-None-2.ensures.state ∙ ap (λ (s : Session). state s) (c.in_ok-begun-in-None.ensures.begun
    ∙ session_of_unnamed c.self.inside.first c.self.inside.others.entries c.args.branch _ c.self.view_is c.if-branch-eq0.false c.in-None.ensures.value))
    c.routers_with_table-in-None.ensures.routers

pub returns-in_ok-begun-in-None-clause-reply : goal.returns-in_ok-begun-in-None-clause-reply
returns-in_ok-begun-in-None-clause-reply g c =
    found_parts c.args.branch (sessions_of c.args.self.now c.args.branch) (lists_of c.database-in-None-2.result.now) c.routers_with_table-in-None.result
    (c.database-in-None-2.ensures.state ∙ ap (λ (s : Session). state s) (c.in_ok-begun-in-None.ensures.begun
    ∙ session_of_unnamed c.self.inside.first c.self.inside.others.entries c.args.branch _ c.self.view_is c.if-branch-eq0.false c.in-None.ensures.value))
    c.routers_with_table-in-None.ensures.routers c.routers_with_table-in-None.ensures.tables
