use Rattle.std.proofs.Common.{◌∙◌, ap, sym, subst}
use Rattle.branches.specs.Branches.{Named, HaveOneBase, named_by, sessions_by, sessions_of, with_session}
use Rattle.branches.proofs.BranchSessions.{goes_on_named, one_base, other_goes_on}
use Rattle.branches.proofs.PlannersByNumber.{inserted}
use Rattle.branches.proofs.branches.Branches.name.Goals as goal

pub invariant_of-self : goal.invariant_of-self
invariant_of-self g c =
    (subst (λ es. HaveOneBase (named_by c.self.inside.first es)) (sym c.in_err-insert.ensures.err) c.self.invariant.0, c.self.invariant.1)

pub invariant_of-self-2 : goal.invariant_of-self-2
invariant_of-self-2 g c =
    let named : Named = named_by c.self.inside.first c.self.inside.others.entries in
    let same = c.requires.base ∙ ap (λ (n : Named). n.first.base) (sym c.self.view_is) in
    let went = inserted c.self.inside.others c.insert.new.self c.args.branch c.args.planner c.in_ok-insert.ensures.updates in
    (one_base named (sessions_by c.insert.new.self.entries) c.args.branch c.args.planner.session same went c.self.invariant.0, c.self.invariant.1)

pub returns-clause-sessions : goal.returns-clause-sessions
returns-clause-sessions g c =
    other_goes_on (named_by c.self.inside.first c.self.inside.others.entries)
    (sessions_by c.insert.new.self.entries) c.args.branch c.args.planner.session c.requires.not_first
    (inserted c.self.inside.others c.insert.new.self c.args.branch c.args.planner c.in_ok-insert.ensures.updates)
    ∙ ap (λ named. with_session c.args.branch c.args.planner.session (sessions_of named)) c.self.view_is

pub returns-clause-named : goal.returns-clause-named
returns-clause-named g c =
    goes_on_named c.self.inside.first.session (sessions_by c.insert.new.self.entries) c.args.branch c.args.planner.session
    (inserted c.self.inside.others c.insert.new.self c.args.branch c.args.planner c.in_ok-insert.ensures.updates).at
