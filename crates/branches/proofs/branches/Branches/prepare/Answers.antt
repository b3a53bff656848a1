use Rattle.std.proofs.Common.{◌∙◌, ap, sym}
use Rattle.branches.specs.Branches.{Named, sessions_of, with_session}
use Rattle.branches.proofs.BranchSessions.{begins_alone, not_first}
use Rattle.branches.proofs.branches.Branches.prepare.Goals as goal

pub name-requires-clause-not_first : goal.name-requires-clause-not_first
name-requires-clause-not_first g c = not_first c.args.self.now c.args.branch (sym c.has_planner.ensures ∙ c.if-has_planner.false)

pub returns-clause-kept : goal.returns-clause-kept
returns-clause-kept g c =
    let b = c.args.branch in
    let s = c.in_ok-planner.planner.session in
    let none = sym c.has_planner.ensures ∙ c.if-has_planner.false in
    begins_alone c.args.self.now c.name.new.self b s (not_first c.args.self.now b none) none
    c.in_ok-planner.ensures.begun
    (c.in_ok-name.ensures.sessions ∙ ap (λ (n : Named). with_session b s (sessions_of n)) c.begun.ensures.kept)
